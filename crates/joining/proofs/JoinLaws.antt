-- What joining answers, refusal by refusal, and for a request that was written. Assumes nothing.
use Rattle.lists.proofs.Kit.{ℕ, suc, ◌+◌, ◌-◌, ◌/◌, ◌%◌, ◌≤◌, ◌<◌, ◌≡◌, refl, sym, ap, ap₂, ◌∙◌, ◌≢◌, inl, inr, Bool, true, false, List, [], ◌∷◌, ◌++◌, zero-add, arith, mid_of, length, drop, take_all, length-append, length-drop}
use Rattle.lists.specs.Ladder.{Ladder, Answers}
use Rattle.slots.specs.Slots.{u16}
use Rattle.writing.specs.declared.Coding.{Coding}
use Rattle.writing.specs.declared.Coding.TheVariants.{Unicode16, EightBit}
use Rattle.writing.specs.Canonical.{plain}
use Rattle.writing.specs.Carrier.{carrier, coding_type, RequestOf, InSize}
use Rattle.writing.specs.Fields.{val, res}
use Rattle.writing.specs.Settings.{Setting}
use Rattle.writing.specs.Writing.{request_head}
use Rattle.read_carrier.proofs.KindLaws.{request_opens, other_kind, other_version as another_version}
use Rattle.read_carrier.proofs.MessageOne.{coding_one}
use Rattle.export_write.specs.Writers.{Wrote}
use Rattle.export_write.proofs.PlainLaws.{plain_byte, plain_two}
use Rattle.export_write.proofs.WroteLaws.{wrote_length, wrote_both, wrote_as}
use Rattle.tables.specs.Limits.{handheld, vehicle}
use Rattle.requests.specs.Judge.{Outcome, kept, refused}
use Rattle.joining.specs.declared.answers.Join.{Join}
use Rattle.joining.specs.declared.answers.Join.TheVariants.{Written, Codings, TooMany, TooLong}
use Rattle.joining.specs.declared.checks.Head.{Head}
use Rattle.joining.specs.Joins.{After, Sound, EndsRequest, joined_bytes, stays, Comes, one_of, both_of, joining}
use Rattle.joining.specs.Told.{told, CanJoin}
use Rattle.joining.specs.Checking.{TurnsDown, Faulty, size, carrier as not_carried, other_type, other_version, no_request, at_settings, Fine, BothAre}

-- ---- the bytes

-- the first data bytes, and the carrier's
head_is : (n : ℕ) → n < 256 → plain (request_head n) ≡ 8 ∷ n ∷ []
head_is n c =
    plain_byte 8 (val 5 1 ∷ val 3 0 ∷ []) (val 8 n ∷ []) refl refl (omega arith) (1, refl) (c, tt)
    ∙ ap (λ (x : List ℕ). 8 ∷ x) (plain_byte n (val 8 n ∷ []) [] refl (omega arith) c (0, refl) tt)

carrier_is : (n : ℕ) (c : Coding) → n < 65536 → plain (carrier n (coding_type c)) ≡ u16 n ++ (8 ∷ coding_type c ∷ [])
carrier_is n Unicode16 l = plain_two n (val 16 n ∷ []) (val 8 0x08 ∷ res 4 ∷ val 4 7 ∷ []) refl (omega arith) l (2, refl) (omega arith, (tt, (omega arith, tt)))
carrier_is n EightBit l = plain_two n (val 16 n ∷ []) (val 8 0x08 ∷ res 4 ∷ val 4 4 ∷ []) refl (omega arith) l (2, refl) (omega arith, (tt, (omega arith, tt)))

joined_is : (c : Coding) (count : ℕ) (z : List ℕ) → count < 256 → 4 + length z < 65536
    → joined_bytes c count z ≡ 2 ∷ 2 ∷ ((4 + length z) / 256) ∷ ((4 + length z) % 256) ∷ 8 ∷ coding_type c ∷ 8 ∷ count ∷ z
joined_is c count z n l =
    ap₂ (λ (x y : List ℕ). 2 ∷ 2 ∷ (x ++ (y ++ z))) (carrier_is (4 + length z) c l) (head_is count n)

-- JOINED LENGTH: eight bytes before the settings
pub joined_length : (c : Coding) (count : ℕ) (z : List ℕ) → length (joined_bytes c count z) ≡ 8 + length z
joined_length c count z = let e : suc (suc (suc (suc (suc (suc (suc (suc (length z)))))))) ≡ 8 + length z = omega arith in e

-- the head was written, then the settings of the first, then those of the second
pub all_written : (h : Head) (low m n r : ℕ) (x y s t u v : List ℕ) → low ≡ coding_type h.coding → h.count < 256 → 8 + length x + length y ≤ length s → length x + length y < 65532
    → (0 + 8 ≤ length s → Wrote (2 ∷ 2 ∷ ((4 + length x + length y) / 256 % 256) ∷ ((4 + length x + length y) % 256) ∷ 8 ∷ low ∷ 8 ∷ h.count ∷ []) 0 s t m)
    → (m + length x ≤ length t → Wrote x m t u n) → (n + length y ≤ length u → Wrote y n u v r)
    → Wrote (joined_bytes h.coding h.count (x ++ y)) 0 s v r
all_written h low m n r x y s t u v ec lc room small p q w =
    let head : List ℕ = 2 ∷ 2 ∷ ((4 + length x + length y) / 256 % 256) ∷ ((4 + length x + length y) % 256) ∷ 8 ∷ low ∷ 8 ∷ h.count ∷ [] in
    let a : Wrote head 0 s t m = p (omega arith) in
    let lt : length t ≡ length s = wrote_length head 0 m s t a in
    let am : m ≡ 0 + 8 = a.next in
    let b : Wrote x m t u n = q (omega arith) in
    let lu : length u ≡ length t = wrote_length x m n t u b in
    let bm : n ≡ m + length x = b.next in
    let d : Wrote y n u v r = w (omega arith) in
    let lz : length (x ++ y) ≡ length x + length y = length-append x y in
    let hi : (4 + length x + length y) / 256 % 256 ≡ (4 + length (x ++ y)) / 256 = omega arith in
    let lo : (4 + length x + length y) % 256 ≡ (4 + length (x ++ y)) % 256 = omega arith in
    wrote_as ((head ++ x) ++ y) (joined_bytes h.coding h.count (x ++ y)) 0 r s v
    ((λ i. 2 ∷ 2 ∷ hi i ∷ lo i ∷ 8 ∷ ec i ∷ 8 ∷ h.count ∷ (x ++ y)) ∙ sym (joined_is h.coding h.count (x ++ y) lc (omega arith)))
    (wrote_both (head ++ x) y 0 n r s u v (wrote_both head x 0 m n s t u a b) d)

-- ---- both together

module _ (most : ℕ) (first second buffer : List ℕ) (h k : Head) where
  pub both_codings : coding_type h.coding ≢ coding_type k.coding → BothAre most first second buffer buffer h k Codings
  both_codings n can a b ea eb = inl ((λ e. n (ap coding_type e)), refl)

  module _ (same : coding_type h.coding ≡ coding_type k.coding) (few : h.count ≤ 255) where
    pub both_many : 255 - h.count < k.count → BothAre most first second buffer buffer h k TooMany
    both_many n can a b ea eb = inr (λ d. d (coding_one h.coding k.coding same), inl (omega arith, refl))

    module _ (low : 8 ≤ length first) (high : length first ≤ most) (long : 8 ≤ length second) (fit : k.count ≤ 255 - h.count) where
      both_length : length (drop 8 first ++ drop 8 second) ≡ length first - 8 + (length second - 8)
      both_length = length-append (drop 8 first) (drop 8 second) ∙ ap₂ (λ i j. i + j) (length-drop 8 first) (length-drop 8 second)

      pub both_long : most - length first < length second - 8 → BothAre most first second buffer buffer h k TooLong
      both_long n can a b ea eb =
          inr (λ d. d (coding_one h.coding k.coding same), inr ((λ l. omega arith), inl (omega (arith, both_length), refl)))

      pub both_written : (after : List ℕ) (r : ℕ) → length second - 8 ≤ most - length first
          → (length (mid_of 8 (length first - 8) first) + length (mid_of 8 (length second - 8) second) < 65532
          → Wrote (joined_bytes h.coding (h.count + k.count) (mid_of 8 (length first - 8) first ++ mid_of 8 (length second - 8) second)) 0 buffer after r)
          → BothAre most first second buffer after h k (Written r)
      both_written after r n w can a b ea eb =
          let x : mid_of 8 (length first - 8) first ≡ drop 8 first = take_all (length first - 8) (drop 8 first) (omega (arith, length-drop 8 first)) in
          let y : mid_of 8 (length second - 8) second ≡ drop 8 second = take_all (length second - 8) (drop 8 second) (omega (arith, length-drop 8 second)) in
          let lx : length (mid_of 8 (length first - 8) first) ≡ length first - 8 = ap length x ∙ length-drop 8 first in
          let ly : length (mid_of 8 (length second - 8) second) ≡ length second - 8 = ap length y ∙ length-drop 8 second in
          let m : most < 65540 = can.stated in
          let z = w (omega arith) in
          let count : h.count + k.count ≡ length a + length b = omega arith in
          let bytes : List ℕ = joined_bytes h.coding (length a + length b) (drop 8 first ++ drop 8 second) in
          let v : Wrote bytes 0 buffer after r
          = wrote_as _ bytes 0 r buffer after (λ i. joined_bytes h.coding (count i) (x i ++ y i)) z in
          let e : r ≡ length bytes = v.next ∙ zero-add (length bytes) in
          let d : after ≡ bytes ++ drop (length bytes) buffer = v.content ∙ ap (λ (i : ℕ). bytes ++ drop i buffer) (zero-add (length bytes)) in
          inr (
            λ d. d (coding_one h.coding k.coding same),
            inr (
              λ l. omega arith,
              inr (
                λ l. omega (arith, both_length),
                λ i. record { answer = record { number = 0; failed = 0; in_second = false; request_length = e i }; buffer = d i },
              ),
            ),
          )

-- ---- one of the requests

module _ (most : ℕ) (first second buffer : List ℕ) (in_second : Bool) (m : List ℕ) (next : Coding → List Setting → List ℕ → Ladder After) where
  -- a request that is at fault is answered so
  comes_down : (o : Outcome Setting (Unit {0})) (c : Coding) (settings : List ℕ) (number failed : ℕ) → TurnsDown o number failed
      → Comes most first second buffer in_second (λ l. next c l settings) o (stays most first second buffer in_second number failed)
  comes_down (refused n i) c settings number failed (e, d) = ap₂ (stays most first second buffer in_second) (sym e) (sym d)
  comes_down (kept l t) c settings number failed (f, e, d) = inl (f, ap₂ (stays most first second buffer in_second) (sym e) (sym d))

  pub faulty_answers : {number failed : ℕ} → Faulty most m number failed
      → Answers (one_of most first second buffer in_second m next) (stays most first second buffer in_second number failed)
  faulty_answers (size n) = inl (n, refl)
  faulty_answers (not_carried i n) = inr (λ x. x i, inl (n, refl))
  faulty_answers (other_type i o n) = inr (λ x. x i, inr (λ x. x _ _ o.carried, inl (other_kind o (◌≡ 0) n, refl)))
  faulty_answers (other_version i o n) = inr (λ x. x i, inr (λ x. x _ _ o.carried, inr (λ x. x _ _ _ _ refl o, inl (another_version o n, refl))))
  faulty_answers (no_request i o n) = inr (λ x. x i, inr (λ x. x _ _ o.carried, inr (λ x. x _ _ _ _ refl o, inr (λ x. x _ _ _ o, inl (n, refl)))))
  faulty_answers (at_settings {c} {count} {number} {failed} {settings} o i r s t) =
      let p = request_opens r in
      inr (λ x. x i, inr (λ x. x _ _ p.carried, inr (λ x. x _ _ _ _ refl p, inr (λ x. x _ _ _ p, inr (λ x. x c count settings r, (c, count, settings, r, o, s, comes_down o c settings number failed t))))))

  -- and one that may be joined as what is next says
  pub sound_answers : {c : Coding} {count : ℕ} {settings : List ℕ} {l : List Setting} → InSize most m → RequestOf c count settings m → Sound c count settings (kept l tt)
      → (EndsRequest l → ⊥) → (a : After) → Answers (next c l settings) a → Answers (one_of most first second buffer in_second m next) a
  sound_answers {c} {count} {settings} {l} i r j f a z =
      let p = request_opens r in
      inr (λ n. n i, inr (λ n. n _ _ p.carried, inr (λ n. n _ _ _ _ refl p, inr (λ n. n _ _ _ p, inr (λ n. n _ _ _ r, (c, count, settings, r, kept l tt, j, inr (f, z)))))))

-- ---- the call

module _ (most : ℕ) (first second buffer : List ℕ) (room : most ≤ length buffer) where
  -- what comes after the first request, and after both
  abbrev then_second : Coding → List Setting → List ℕ → Ladder After
  then_second c a x = one_of most first second buffer true second (λ d b y. both_of most first second buffer c a x d b y)

  pub wrong_first : {number failed : ℕ} → Faulty most first number failed → Answers (joining most first second buffer) (stays most first second buffer false number failed)
  wrong_first z = inr (λ l. omega arith, faulty_answers most first second buffer false first then_second z)

  module _ (h : Head) (f : Fine most first h) where
    pub wrong_second : {number failed : ℕ} → Faulty most second number failed → Answers (joining most first second buffer) (stays most first second buffer true number failed)
    wrong_second z = inr (λ l. omega arith, sound_answers most first second buffer false first then_second f.size f.request f.sound f.no_ff _ (faulty_answers most first second buffer true second (both_of most first second buffer h.coding f.settings (drop 8 first)) z))

    pub joins_both : (k : Head) (g : Fine most second k) (after : List ℕ) (r : Join) → BothAre most first second buffer after h k r → CanJoin most
        → Answers (joining most first second buffer) (record { answer = told r; buffer = after })
    joins_both k g after r b can =
        inr (
          λ l. omega arith,
          sound_answers most first second buffer false first then_second f.size f.request f.sound f.no_ff _ (sound_answers most first second buffer true second (both_of most first second buffer h.coding f.settings (drop 8 first)) g.size g.request g.sound g.no_ff _
              (b can f.settings g.settings f.counted g.counted)),
        )

-- HANDHELD: its message size is one that is meant
pub handheld_can : CanJoin handheld.message
handheld_can = record { stated = omega arith }

pub vehicle_can : CanJoin vehicle.message
vehicle_can = record { stated = omega arith }
