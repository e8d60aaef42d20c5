-- A request judged on a working copy of all tables or of part of them. Assumes nothing.
use Rattle.lists.proofs.Kit.{ℕ, ◌≡◌, refl, sym, ap, ◌∙◌, subst, List, Bool, true, false, cond, ◌||◌, mid_of, length, replicate, length-replicate}
use Rattle.std.specs.Prelude.{Result, Ok, Err}
use Rattle.writing.specs.declared.Coding.{Coding}
use Rattle.writing.specs.declared.Kind.{Kind}
use Rattle.writing.specs.declared.LastFlags.{LastFlags}
use Rattle.writing.specs.declared.Kind.TheVariants.{Last}
use Rattle.tables.specs.declared.limits.Limits.{Limits}
use Rattle.tables.specs.declared.limits.Texts.{Texts}
use Rattle.tables.specs.Forms.{Roomy}
use Rattle.tables.specs.Layout.{hash_bytes, hash_size}
use Rattle.tables.specs.Owns.{own, only, put_own}
use Rattle.tables.specs.Store.{Holds, Works}
use Rattle.tables.specs.Tables.{Tables, no_hash}
use Rattle.tables.specs.Texts.{text_sum, text_size, WhereShared}
use Rattle.tables.proofs.AllowedLaws.{forget_allowed}
use Rattle.tables.proofs.Frames.{hash_get}
use Rattle.tables.proofs.Owns.{own_other, same_kind}
use Rattle.working.specs.declared.copies.Copy.{Copy}
use Rattle.working.specs.declared.copies.Copy.TheVariants.{Whole, Part}
use Rattle.working.specs.Copies.{CopyLoaded, CopySum, Ready}
use Rattle.working.specs.Parts.{copied?, part_of, rejoined}
use Rattle.working.specs.Working.{StoreSum}
use Rattle.requests.specs.declared.run.Fault.{Fault as RunFault}
use Rattle.requests.specs.Parts.{CopyIs, CopyFrom}
use Rattle.requests.specs.Requests.{forget}
use Rattle.requests.proofs.PartLaws.{part_own}
use Rattle.station.specs.Handling.{RequestJudged}

-- the hash is in every copy
hash_copied : (k : Kind) → copied? k Last ≡ true
hash_copied k = or-true (only k Last)
  where
    or-true : (b : Bool) → (b || true) ≡ true
    or-true true = refl
    or-true false = refl

-- the tables of a copy
abbrev pub copy_of : Copy → Tables → Tables
copy_of Whole t = t
copy_of (Part k) t = part_of k t

-- with no hash kept
pub copy_forgets : (d : Copy) (t : Tables) → forget (copy_of d t) ≡ copy_of d (forget t)
copy_forgets Whole t = refl
copy_forgets (Part k) t = ap (put_own Last (part_of k t)) (both (copied? k Last))
  where
    both : (b : Bool) → no_hash ≡ cond b no_hash no_hash
    both true = refl
    both false = refl

-- a copy that was loaded has them
pub copy_loaded : (c : Coding) (lim : Limits) (d : Copy) (count : ℕ) (m : List ℕ) (at : ℕ) (store work after : List ℕ) → CopyIs c lim count m at d → work ≡ replicate lim.size 0 → Roomy lim
    → CopyLoaded lim d store work after → (t : Tables) → Holds lim t store → Works lim (copy_of d t) after
copy_loaded c lim Whole count m at store work after i l room h t was = h (ap length l ∙ length-replicate _ _) t room was
copy_loaded c lim (Part k) count m at store work after i l room h t was = h l i.0 t room was

-- the hash of a copy that is ready is that of the tables
pub ready_hash : (lim : Limits) (d : Copy) (t u : Tables) (work : List ℕ) → Ready lim d t u work → mid_of 0 hash_size work ≡ hash_bytes u.hash
ready_hash lim Whole t u work (ok, is) = ap (mid_of 0 hash_size) is ∙ hash_get lim u ok
ready_hash lim (Part k) t u work (_, (ok, is), _) = ap (mid_of 0 hash_size) is ∙ hash_get lim (part_of k u) ok ∙ ap hash_bytes (part_own k Last u (hash_copied k))

-- the other tables are the same with the hash and without it
rejoined_hash : (k : Kind) (t u : Tables) → rejoined k (forget t) u ≡ rejoined k t u
rejoined_hash k t u = ap (put_own Last (rejoined k t u)) (one (copied? k Last) (hash_copied k))
  where
    one : (b : Bool) → b ≡ true → cond b u.hash no_hash ≡ cond b u.hash t.hash
    one b e = ap (λ (x : Bool). cond x u.hash no_hash) e ∙ sym (ap (λ (x : Bool). cond x u.hash t.hash) e)

-- the texts of a table take the same without it
size_forgets : (j : Kind) (t : Tables) → text_size j (own j t) ≡ text_size j (own j (forget t))
size_forgets j t = go (only Last j) refl
  where
    go : (b : Bool) → only Last j ≡ b → text_size j (own j t) ≡ text_size j (own j (forget t))
    go true e = subst (λ (i : Kind). text_size i (own i t) ≡ text_size i (own i (forget t))) (same_kind Last j e) refl
    go false e = ap (text_size j) (sym (own_other Last j t no_hash e))

-- REQUEST JUDGED: the settings were run on a copy of the store with no hash kept, from the sum of the store's texts and that of the copied table's
pub request_judged : (c : Coding) (lim : Limits) (d : Copy) (message : List ℕ) (count at held took : ℕ) (store w v : List ℕ) (run : Result LastFlags RunFault)
    → Roomy lim → CopyIs c lim count message at d → ((t : Tables) → Holds lim t store → Works lim (copy_of d (forget t)) w) → StoreSum lim store held → CopySum lim d store took
    → CopyFrom c lim d count message at held took w v run → RequestJudged c lim d message count at store v run
request_judged c lim Whole message count at held took store w v (Ok f) room i h n o r = λ t k.
    let z = r (forget t) room (forget_allowed lim t k.0) (h t k) (n t room k) in
    record { settings = z.settings; tables = z.tables; allowed = z.allowed; judged = z.judged; ready = z.holds; flags = z.flags }
request_judged c lim Whole message count at held took store w v (Err x) room i h n o r = λ t k. r (forget t) room (forget_allowed lim t k.0) (h t k) (n t room k)
request_judged c lim (Part j) message count at held took store w v (Ok f) room ((a, e, l), Only_of) h n o r = λ t k.
    let s : held ≡ text_sum t = subst (λ (x : Texts). WhereShared x (held ≡ text_sum t)) e (n t room k) in
    let p : took ≡ text_size j (own j t) = subst (λ (x : Texts). WhereShared x (took ≡ text_size j (own j t))) e (o t room k) in
    let z = r (forget t) a e room (forget_allowed lim t k.0) (h t k) s (p ∙ size_forgets j t) Only_of in
    record { settings = z.settings; tables = z.tables; allowed = z.allowed; judged = z.judged; ready = ((a, e, l), z.holds, z.joined ∙ rejoined_hash j t z.tables); flags = z.flags }
request_judged c lim (Part j) message count at held took store w v (Err x) room ((a, e, l), Only_of) h n o r = λ t k.
    let s : held ≡ text_sum t = subst (λ (x : Texts). WhereShared x (held ≡ text_sum t)) e (n t room k) in
    let p : took ≡ text_size j (own j t) = subst (λ (x : Texts). WhereShared x (took ≡ text_size j (own j t))) e (o t room k) in
    r (forget t) a e room (forget_allowed lim t k.0) (h t k) s (p ∙ size_forgets j t) Only_of
