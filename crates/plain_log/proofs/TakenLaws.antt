-- One request of an area: it is taken in its turn, or it is not. Assumes nothing.
use Rattle.lists.proofs.Kit.{ℕ, ◌≤◌, ◌<◌, ◌+◌, ◌*◌, ◌-◌, ◌%◌, ◌≡◌, refl, sym, ap, ◌∙◌, subst, subst₂, inl, List, [], ◌∷◌, ◌++◌, length, drop, take, get_or, take_at, arith, mid_of}
use denote.Enum.Declared.{tag_of}
use types.Run.{OneOf, miss}
use Rattle.lists.specs.Bytes.{Bytes}
use Rattle.lists.proofs.Bytes.{bytes_drop, bytes_take}
use Rattle.writing.specs.declared.Coding.{Coding}
use Rattle.writing.specs.Carrier.{RequestOf, InSize, result_number}
use Rattle.writing.specs.Settings.{Setting}
use Rattle.read_fields.specs.declared.hashes.HashPlace.{HashPlace}
use Rattle.read_carrier.specs.Message.{MessageIs}
use Rattle.read_carrier.specs.declared.carrier.Message.{Message}
use Rattle.read_carrier.specs.declared.carrier.Message.TheVariants.{Size, Carrier, «Type» as AnotherType, Version, NoRequest, Request, NoQuery, Query as AQuery}
use Rattle.read_carrier.specs.contracts.carrier.Message.{the_type}
use Rattle.read_carrier.proofs.KindLaws.{request_one, one_coding, request_opens, other_type, other_version, opens_no_request, uncounted, not_both}
use Rattle.tables.specs.Limits.{handheld}
use Rattle.tables.specs.Tables.{Tables}
use Rattle.requests.specs.declared.run.Fault.{Fault}
use Rattle.requests.specs.Judge.{Outcome, kept, refused, taken}
use Rattle.requests.specs.Requests.{Judged, forget, last_item}
use Rattle.laws_taking.specs.Demands.{InTurn}
use Rattle.laws_taking.proofs.Demand.{run_written, hash_own}
use Rattle.laws_taking.proofs.Determined.{judged_determined}
use Rattle.read_deeds.specs.Cursors.{Standing}
use Rattle.plain_judge.specs.declared.judge.Item.{Item}
use Rattle.std.specs.declared.result.Result.TheVariants.{Ok, Err}
use Rattle.plain_judge.specs.Judging.{RunIs, HashStands}
use Rattle.std.specs.declared.option.Option.TheVariants.{Some, None}
use Rattle.plain_log.specs.Area.{record_bytes, TakenFrom}
use Rattle.plain_log.specs.Frames.{NumberAt}
use Rattle.plain_log.specs.Checking.{RecordIs}
use Rattle.plain_log.proofs.RecordLaws.{frame_long, frame_rest, frame_read, frame_one, shift_standing, shift_hash, request_at, byte_at}

-- ---- what was judged

-- settings that were kept in turn
pub kept_turn : (c : Coding) (n : ℕ) (t u : Tables) (bs : List ℕ) (l : List Setting) → Judged c handheld n t bs (kept l u) → (length l ≡ n) × InTurn handheld n t l u
kept_turn c n t u bs l (taken e q) = (e, (run_written c handheld q).3)

-- so the hash is that of the last item
kept_hash : (c : Coding) (n : ℕ) (t u : Tables) (bs : List ℕ) (l : List Setting) → Judged c handheld n (forget t) bs (kept l u) → (last_item l).hash ≡ u.hash
kept_hash c n t u bs l j = sym (hash_own handheld n (forget t) u l refl (kept_turn c n (forget t) u bs l j).1)

-- what is refused
abbrev Refusal : Outcome Setting Tables → Type 0
Refusal (kept l u) = ⊥
Refusal (refused n f) = Unit {0}

-- a request as it was read
read_request : (most : ℕ) (m : List ℕ) (count at : ℕ) (c : Coding) → MessageIs most m (Request count at c) → RequestOf c count (drop at m) m
read_request most m count at c z = record { data_bytes = z.1; carried = z.2; counted = z.3 }

-- a message that was read as anything else is none
no_request : (most : ℕ) (m : List ℕ) (k : Message) → OneOf (0 ∷ 1 ∷ 2 ∷ 3 ∷ 4 ∷ 6 ∷ 7 ∷ []) (tag_of the_type k) → MessageIs most m k → InSize most m → {c : Coding} {n : ℕ} {b : List ℕ} → RequestOf c n b m → ⊥
no_request most m Size i z s r = z s
no_request most m Carrier i z s r = z.1 _ _ r.carried
no_request most m AnotherType i z s r = other_type z.5 z.6 z.7 _ _ _ _ (inl refl) (request_opens r)
no_request most m Version i z s r = other_version z.5 z.7 _ _ _ (request_opens r)
no_request most m NoRequest i z s {c} {n} {b} r = uncounted z.3 z.4 c n b r
no_request most m (Request count at d) i z s r = absurd (miss (0 ∷ 1 ∷ 2 ∷ 3 ∷ 4 ∷ 6 ∷ 7 ∷ []) 5 tt i)
no_request most m NoQuery i z s {c} {n} {b} r = opens_no_request z.3 refl c n b r
no_request most m (AQuery p) i z s r = not_both r z.2

-- what is taken is not refused
taken_kept : (t : Tables) (m : List ℕ) (l : List Setting) (u : Tables) (c : Coding) (count at number failed : ℕ) → TakenFrom handheld t m l u → RequestOf c count (drop at m) m
    → Judged c handheld count (forget t) (drop at m) (refused number failed) → ⊥
taken_kept t m l u c count at number failed tk r j =
    let (n, b) = request_one tk.request r in
    let k : Judged c handheld count (forget t) (drop at m) (kept l u)
    = subst (λ (d : Coding). Judged d handheld count (forget t) (drop at m) (kept l u)) (one_coding tk.request r)
    (subst₂ (λ (i : ℕ) (x : List ℕ). Judged tk.coding handheld i (forget t) x (kept l u)) n b tk.judged) in
    subst Refusal (judged_determined c handheld count (forget t) (drop at m) (refused number failed) (kept l u) j k) tt

module _ (s : List ℕ) (at end n size k : ℕ) (ws vs : List ℕ) (number : NumberAt s at size) (all : k ≡ size) where
  -- a record that stands there was read
  was_read : (m rest : List ℕ) → drop at s ≡ record_bytes m ++ rest → (size ≡ length m) × (mid_of (at + 2) k s ≡ m)
  was_read m rest e =
      let (a, b, c) = frame_one s at m rest e in
      let z : size ≡ length m = number.0 (omega (arith, b)) ∙ a in
      (z, ap (λ (i : ℕ). mid_of (at + 2) i s) (all ∙ z) ∙ c)

  -- it does not pass the end
  pub not_there : at + 2 ≤ end → end - (at + 2) < size → RecordIs s at end n ws vs None
  not_there h z ds t g w long m l u rest tk e fits = omega (arith, h, z, fits, (was_read m rest e).0)

  -- it is a request
  pub not_request : (x : Message) → OneOf (0 ∷ 1 ∷ 2 ∷ 3 ∷ 4 ∷ 6 ∷ 7 ∷ []) (tag_of the_type x) → MessageIs handheld.message (mid_of (at + 2) k s) x → RecordIs s at end n ws vs None
  not_request x i z ds t g w long m l u rest tk e fits =
      no_request handheld.message m x i (subst (λ (y : List ℕ). MessageIs handheld.message y x) (was_read m rest e).1 z) tk.in_size tk.request

  module _ (count from : ℕ) (c : Coding) (message : MessageIs handheld.message (mid_of (at + 2) k s) (Request count from c)) where
    -- and its settings are good
    pub not_good : (f : Fault) → RunIs s n (mid_of (at + 2) k s) (record { at = from; count = count; coding = c }) ws vs (Err f) → RecordIs s at end n ws vs None
    not_good f j ds t g w long m l u rest tk e fits =
        let same = (was_read m rest e).1 in
        taken_kept t m l u c count from (result_number f.result) f.failed tk
        (subst (λ (y : List ℕ). RequestOf c count (drop from y) y) same (read_request handheld.message (mid_of (at + 2) k s) count from c message))
        (subst (λ (y : List ℕ). Judged c handheld count (forget t) (drop from y) (refused (result_number f.result) f.failed)) same (j ds (forget t) g w))

    -- then it is taken
    pub is_good : Bytes s → at + 2 + size ≤ end → end ≤ length s → (i : Item) (d next : ℕ) (p : HashPlace) → RunIs s n (mid_of (at + 2) k s) (record { at = from; count = count; coding = c }) ws vs (Ok (i, d))
        → next ≡ at + 2 + size → p.code ≡ i.hash.code → (i.hash.start ≤ size → p.start ≡ at + 2 + i.hash.start) → RecordIs s at end n ws vs (Some (record { next = next; deeds = d; hash = p }))
    is_good b inside long i d next p j nx pc ps ds t g w =
        let m : List ℕ = mid_of (at + 2) k s in
        let z : size ≡ get_or s at 0 * 256 + get_or s (at + 1) 0 = number.0 (omega (arith, inside, long)) in
        let lm : length m ≡ k = frame_long s at k (omega (arith, inside, long, all)) in
        let f : drop at s ≡ record_bytes m ++ drop (at + 2 + k) s = frame_read s at k b (omega (arith, inside, long, all)) (all ∙ z) in
        let bm : Bytes m = bytes_take k (drop (at + 2) s) (bytes_drop (at + 2) s b) in
        let r : RequestOf c count (drop from m) m = read_request handheld.message m count from c message in
        let (long8, cb, nb) = request_at c count (drop from m) m bm r in
        let q = j ds (forget t) g w in
        let a8 : from ≡ 8 = message.4 in
        let st = shift_standing s m (drop (at + 2 + k) s) (at + 2) (frame_rest s at k) c from q.settings (length m) (omega (arith, a8, long8)) (q.stands (omega (arith, a8, long8))) in (
          q.settings,
          q.tables,
          m,
          record { in_size = message.0; coding = c; count = count; bytes = drop from m; request = r; judged = q.judged },
          ap (take (next - at)) f ∙ take_at (record_bytes m) (drop (at + 2 + k) s) (next - at) (omega (arith, lm, nx, all)),
          omega (arith, lm, nx, all),
          omega (arith, nx, inside),
          record {
            coding = c;
            room = omega (arith, long8, lm, all, inside, long);
            type = ap (λ (x : ℕ). x % 16) (ap (λ (x : ℕ). get_or s x 0) (omega arith) ∙ byte_at s at k 5 (omega (arith, long8, lm))) ∙ cb;
            count = ap (λ (x : ℕ). get_or s x 0) (omega arith) ∙ byte_at s at k 7 (omega (arith, long8, lm)) ∙ nb ∙ sym q.count;
            some_setting = λ e. omega (arith, e, q.count, message.3.some_setting);
            stands = subst₂ (λ (x y : ℕ). Standing c s x q.settings y) (omega (arith, a8)) (omega (arith, nx, lm, all)) st;
          },
          q.passed,
          q.few,
          q.short,
          q.weights,
          subst (HashStands s p) (kept_hash c count t q.tables (drop from m) q.settings q.judged)
              (shift_hash s m (drop (at + 2 + k) s) (at + 2) (frame_rest s at k) i.hash p (last_item q.settings).hash pc (λ e. ps (omega (arith, e, lm, all))) q.item.hash),
        )
