-- An area is that of one log and one set of tables, and one request more makes another. Assumes nothing.
use Rattle.lists.proofs.Kit.{ℕ, ◌≤◌, ◌+◌, ◌/◌, ◌%◌, ◌≡◌, refl, sym, ap, ap₂, ◌∙◌, subst, subst₂, List, [], ◌∷◌, ◌++◌, nil≢cons, cons≢nil, length, arith}
use Rattle.lists.proofs.Seqs.{cut}
use Rattle.slots.specs.Slots.{pad, u16}
use Rattle.slots.proofs.Numbers.{u16_one}
use Rattle.slots.proofs.Pads.{pad_after, pad_same}
use Rattle.writing.specs.declared.Coding.{Coding}
use Rattle.writing.specs.Settings.{Setting}
use Rattle.read_carrier.proofs.KindLaws.{request_one, one_coding}
use Rattle.tables.specs.declared.limits.Limits.{Limits}
use Rattle.tables.specs.Limits.{handheld}
use Rattle.tables.specs.Tables.{Tables, fresh}
use Rattle.requests.specs.Judge.{Outcome, kept, refused}
use Rattle.requests.specs.Requests.{Judged, forget}
use Rattle.laws_taking.proofs.Determined.{judged_determined}
use Rattle.plain_log.specs.Area.{u32, log_bytes, TakenFrom, TakenInTurn, none_taken, then_taken, AreaOf}

-- ---- the bytes

-- four bytes are those of one number
u32_one : (a b : ℕ) → u32 a ≡ u32 b → a ≡ b
u32_one a b e =
    let (p, q) = cut (u16 (a / 65536)) (u16 (b / 65536)) refl e in
    let x : a / 65536 ≡ b / 65536 = u16_one (a / 65536) (b / 65536) p in
    let y : a % 65536 ≡ b % 65536 = u16_one (a % 65536) (b % 65536) q in
    omega arith

-- bytes behind their length, filled up to a size, are the bytes of one list
frame_one : (n : ℕ) (a b : List ℕ) → length a ≤ n → pad 0 (4 + n) (u32 (length a) ++ a) ≡ pad 0 (4 + n) (u32 (length b) ++ b) → a ≡ b
frame_one n a b h e =
    let d : u32 (length a) ++ pad 0 n a ≡ u32 (length b) ++ pad 0 n b = sym (pad_after 0 (u32 (length a)) a n) ∙ e ∙ pad_after 0 (u32 (length b)) b n in
    let (p, q) = cut (u32 (length a)) (u32 (length b)) refl d in
    pad_same 0 n a b (u32_one (length a) (length b) p) h q

-- requests one after another are those of one log
pub log_one : (log other : List (List ℕ)) → log_bytes log ≡ log_bytes other → log ≡ other
log_one [] [] e = refl
log_one [] (m ∷ l) e = absurd (nil≢cons e)
log_one (m ∷ l) [] e = absurd (cons≢nil e)
log_one (m ∷ l) (k ∷ r) e =
    let (p, q) = cut (u16 (length m)) (u16 (length k)) refl e in
    let (x, y) = cut m k (u16_one (length m) (length k) p) q in
    ap₂ (λ (a : List ℕ) (b : List (List ℕ)). a ∷ b) x (log_one l r y)

-- ---- the tables

-- the tables of an outcome
abbrev tables_in : Tables → Outcome Setting Tables → Tables
tables_in t (kept l u) = u
tables_in t (refused number failed) = t

module _ (lim : Limits) where
  -- a request that is taken leaves one set of tables
  taken_one : (t : Tables) (message : List ℕ) (l k : List Setting) (u v : Tables) → TakenFrom lim t message l u → TakenFrom lim t message k v → u ≡ v
  taken_one t message l k u v a b =
      let (n, s) = request_one a.request b.request in
      let z : Judged b.coding lim b.count (forget t) b.bytes (kept l u)
      = subst (λ (c : Coding). Judged c lim b.count (forget t) b.bytes (kept l u)) (one_coding a.request b.request)
      (subst₂ (λ (i : ℕ) (bs : List ℕ). Judged a.coding lim i (forget t) bs (kept l u)) n s a.judged) in
      ap (tables_in t) (judged_determined b.coding lim b.count (forget t) b.bytes (kept l u) (kept k v) z b.judged)

  -- and so do requests in turn
  turn_one : {t u v : Tables} {log : List (List ℕ)} → TakenInTurn lim t log u → TakenInTurn lim t log v → u ≡ v
  turn_one none_taken none_taken = refl
  turn_one {t} {u} {v} (then_taken {u = w} {message = m} {l = l} {log = log} a p) (then_taken {u = x} {l = k} b q) =
      turn_one (subst (λ (z : Tables). TakenInTurn lim z log u) (taken_one t m l k w x a b) p) q

  -- one request more
  pub turn_more : {t u v : Tables} {log : List (List ℕ)} {message : List ℕ} {l : List Setting} → TakenInTurn lim t log u → TakenFrom lim u message l v → TakenInTurn lim t (log ++ (message ∷ [])) v
  turn_more none_taken b = then_taken b none_taken
  turn_more (then_taken a p) b = then_taken a (turn_more p b)

-- ---- the area

-- AREA-DETERMINED: an area is that of one log and one set of tables
pub area_determined : (area : List ℕ) (log other : List (List ℕ)) (t u : Tables) → AreaOf area log t → AreaOf area other u → (log ≡ other) × (t ≡ u)
area_determined area log other t u a b =
    let e : log ≡ other = log_one log other (frame_one 32764 (log_bytes log) (log_bytes other) (omega (arith, a.fits)) (sym a.bytes ∙ b.bytes)) in
    (e, turn_one handheld (subst (λ (z : List (List ℕ)). TakenInTurn handheld fresh z t) e a.taken) b.taken)
