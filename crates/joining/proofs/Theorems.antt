-- What the contract of joining comes to, for every two messages and every buffer. Assumes nothing.
use Rattle.lists.proofs.Kit.{ℕ, ◌+◌, ◌≤◌, ◌≡◌, refl, sym, ap, ◌∙◌, subst, subst₂, ◌≢◌, inl, inr, Bool, true, false, List, ◌++◌, arith, length, take, drop, length-append, take_at}
use Rattle.lists.specs.Bytes.{Bytes}
use Rattle.lists.specs.Ladder.{Ladder, Answers}
use Rattle.lists.proofs.Ladder.{OneFoot, one_answer}
use Rattle.slots.specs.Slots.{written_over}
use Rattle.writing.specs.declared.Coding.{Coding}
use Rattle.writing.specs.declared.Coding.TheVariants.{Unicode16, EightBit}
use Rattle.writing.specs.Carrier.{coding_type, RequestOf, InSize}
use Rattle.writing.specs.Settings.{Setting}
use Rattle.read_carrier.proofs.KindLaws.{request_one, one_coding, request_bytes, in_size}
use Rattle.requests.specs.Judge.{Outcome, kept, refused}
use Rattle.joining.specs.Joining.{Joinable, JoinedAs}
use Rattle.joining.specs.Joins.{After, Sound, EndsRequest, joined_bytes, stays, writes, Comes, one_of, both_of, joining}
use Rattle.joining.specs.Told.{CanJoin}
use Rattle.joining.proofs.CheckLaws.{sound_count}
use Rattle.joining.proofs.JoinLaws.{joined_length, sound_answers}
use Rattle.joining.proofs.RequestLaws.{sound_determined, sound_refused, sound_written, written_sound, ranged_no_ff, count_small, joined_request}

-- ---- one outcome

module _ (most : ℕ) (first second buffer : List ℕ) where
  module _ (in_second : Bool) (m : List ℕ) (next : Coding → List Setting → List ℕ → Ladder After)
      (one : (c : Coding) (l : List Setting) (s : List ℕ) (x y : After) → Answers (next c l s) x → Answers (next c l s) y → x ≡ y) where
    -- what the settings of one of the requests come to leads to one outcome
    one_comes : (o : Outcome Setting (Unit {0})) (c : Coding) (s : List ℕ) (x y : After) → Comes most first second buffer in_second (λ l. next c l s) o x
        → Comes most first second buffer in_second (λ l. next c l s) o y → x ≡ y
    one_comes (refused n i) c s x y p q = p ∙ sym q
    one_comes (kept l t) c s x y (inl p) (inl q) = p.1 ∙ sym q.1
    one_comes (kept l t) c s x y (inl p) (inr q) = absurd (q.0 p.0)
    one_comes (kept l t) c s x y (inr p) (inl q) = absurd (p.0 q.0)
    one_comes (kept l t) c s x y (inr p) (inr q) = one c l s x y p.1 q.1

    -- so does the request
    one_foot : OneFoot (one_of most first second buffer in_second m next)
    one_foot x y (c, count, s, r, o, j, p) (c', count', s', r', o', j', p') =
        let (n, e) = request_one r r' in
        let d : c ≡ c' = one_coding r r' in
        let k : Sound c' count' s' o = subst (λ (b : Coding). Sound b count' s' o) d (subst₂ (λ (i : ℕ) (l : List ℕ). Sound c i l o) n e j) in
        let same : o ≡ o' = sound_determined c' k j' in
        one_comes o' c' s' x y
        (subst (λ (z : Coding × List ℕ × Outcome Setting (Unit {0})). Comes most first second buffer in_second (λ l. next z.0 l z.1) z.2 x) (λ i. (d i, e i, same i)) p) p'

  -- JOIN DETERMINED: two outcomes that joining allows are equal
  pub join_determined : (a b : After) → Answers (joining most first second buffer) a → Answers (joining most first second buffer) b → a ≡ b
  join_determined =
      one_answer (joining most first second buffer)
      (one_foot false first (λ c l s. one_of most first second buffer true second (both_of most first second buffer c l s)) (λ c l s. one_answer (one_of most first second buffer true second (both_of most first second buffer c l s))
      (one_foot true second (both_of most first second buffer c l s) (λ d k t. one_answer (both_of most first second buffer c l s d k t) (λ x y p q. p ∙ sym q)))))

-- ---- how joining ends

module _ (most : ℕ) where
  -- a request that joining found no fault with
  record Sent (m : List ℕ) (c : Coding) (l : List Setting) (settings : List ℕ) : Type 0 where
    size : InSize most m
    request : RequestOf c (length l) settings m
    sound : Sound c (length l) settings (kept l tt)
    no_ff : EndsRequest l → ⊥

  -- it may be joined
  sent_joinable : {m : List ℕ} {c : Coding} {l : List Setting} {settings : List ℕ} → Sent m c l settings → Joinable most c l settings m
  sent_joinable {c} z = let (w, i) = sound_written c z.sound z.no_ff in record { size = z.size; request = z.request; written = w; in_range = i }

  -- and back, in a message of bytes
  joinable_sent : {m : List ℕ} {c : Coding} {l : List Setting} {settings : List ℕ} → Bytes m → Joinable most c l settings m → Sent m c l settings
  joinable_sent {c} {l} b z = record {
    size = z.size;
    request = z.request;
    sound = written_sound c l (request_bytes z.request b) z.written z.in_range;
    no_ff = ranged_no_ff l z.in_range;
  }

-- a coding that is not another one is the same
same_coding : (c d : Coding) → (c ≢ d → ⊥) → c ≡ d
same_coding Unicode16 Unicode16 h = refl
same_coding Unicode16 EightBit h = absurd (h (λ e. omega (arith, ap coding_type e)))
same_coding EightBit Unicode16 h = absurd (h (λ e. omega (arith, ap coding_type e)))
same_coding EightBit EightBit h = refl

module _ (most : ℕ) (first second buffer : List ℕ) where
  -- the buffer stays, or the joined request is written
  data Ends (a : After) : Type 0 where
    stayed : (in_second : Bool) (number failed : ℕ) → 1 ≤ number → number ≤ 15 → failed ≤ 255 → a ≡ stays most first second buffer in_second number failed → Ends a
    joined : (c : Coding) (l k : List Setting) (x y : List ℕ) → Sent most first c l x → Sent most second c k y → length l + length k ≤ 255 → 8 + length (x ++ y) ≤ most
        → a ≡ writes most first second buffer (joined_bytes c (length l + length k) (x ++ y)) → Ends a

  module _ (in_second : Bool) (m : List ℕ) (next : Coding → List Setting → List ℕ → Ladder After) (a : After)
      (then : (c : Coding) (l : List Setting) (s : List ℕ) → Sent most m c l s → Answers (next c l s) a → Ends a) where
    comes_ends : (c : Coding) (count : ℕ) (s : List ℕ) → InSize most m → RequestOf c count s m → (o : Outcome Setting (Unit {0})) → Sound c count s o
        → Comes most first second buffer in_second (λ l. next c l s) o a → Ends a
    comes_ends c count s i r (refused number failed) j e =
        let (low, high, within) = sound_refused c j in
        stayed in_second number failed (omega arith) (omega arith) (omega (arith, count_small r)) e
    comes_ends c count s i r (kept l t) j (inl (f, e)) =
        let n : length l ≡ count = sound_count c j in
        stayed in_second 4 (length l) (omega arith) (omega arith) (omega (arith, count_small r)) e
    comes_ends c count s i r (kept l t) j (inr (f, z)) =
        let n : count ≡ length l = sym (sound_count c j) in
        then c l s (record { size = i; request = subst (λ (k : ℕ). RequestOf c k s m) n r; sound = subst (λ (k : ℕ). Sound c k s (kept l tt)) n j; no_ff = f }) z

    one_ends : Answers (one_of most first second buffer in_second m next) a → Ends a
    one_ends (inl (_, e)) = stayed in_second 12 0 (omega arith) (omega arith) (omega arith) e
    one_ends (inr (_, inl (_, e))) = stayed in_second 13 0 (omega arith) (omega arith) (omega arith) e
    one_ends (inr (_, inr (_, inl (_, e)))) = stayed in_second 14 0 (omega arith) (omega arith) (omega arith) e
    one_ends (inr (_, inr (_, inr (_, inl (_, e))))) = stayed in_second 1 0 (omega arith) (omega arith) (omega arith) e
    one_ends (inr (_, inr (_, inr (_, inr (_, inl (_, e)))))) = stayed in_second 4 0 (omega arith) (omega arith) (omega arith) e
    one_ends (inr (i, inr (_, inr (_, inr (_, inr (_, (c, count, s, r, o, j, z))))))) = comes_ends c count s (in_size most m i) r o j z

  both_ends : (a : After) (c d : Coding) (l k : List Setting) (x y : List ℕ) → Sent most first c l x → Sent most second d k y
      → Answers (both_of most first second buffer c l x d k y) a → Ends a
  both_ends a c d l k x y p q (inl (_, e)) = stayed false 4 0 (omega arith) (omega arith) (omega arith) e
  both_ends a c d l k x y p q (inr (_, inl (_, e))) = stayed false 4 0 (omega arith) (omega arith) (omega arith) e
  both_ends a c d l k x y p q (inr (_, inr (_, inl (_, e)))) = stayed false 12 0 (omega arith) (omega arith) (omega arith) e
  both_ends a c d l k x y p q (inr (n, inr (few, inr (short, e)))) =
      joined c l k x y p (subst (λ (b : Coding). Sent most second b k y) (sym (same_coding c d n)) q) (omega arith) (omega arith) e

  ends : (a : After) → Answers (joining most first second buffer) a → Ends a
  ends a (inl (_, e)) = stayed false 15 0 (omega arith) (omega arith) (omega arith) e
  ends a (inr (_, z)) =
      one_ends false first (λ c l x. one_of most first second buffer true second (both_of most first second buffer c l x)) a (λ c l x p. one_ends true second (both_of most first second buffer c l x) a (λ d k y q. both_ends a c d l k x y p q)) z

  -- ---- the theorems

  module _ (a : After) (allowed : Answers (joining most first second buffer) a) where
    -- JOIN STAYS: every number but 0 leaves the buffer
    pub join_stays : a.answer.number ≢ 0 → a.buffer ≡ buffer
    join_stays n = by (ends a allowed)
      where
        by : Ends a → a.buffer ≡ buffer
        by (stayed s number failed low high small e) = ap (λ (z : After). z.buffer) e
        by (joined c l k x y p q few short e) = absurd (n (ap (λ (z : After). z.answer.number) e))

    -- JOIN SMALL: a number of at most 15, a failed ID of at most 255, and a length in the message size
    pub join_small : (a.answer.number ≤ 15) × (a.answer.failed ≤ 255) × (a.answer.request_length ≤ most)
    join_small = by (ends a allowed)
      where
        by : Ends a → (a.answer.number ≤ 15) × (a.answer.failed ≤ 255) × (a.answer.request_length ≤ most)
        by (stayed s number failed low high small e) =
            (omega (arith, ap (λ (z : After). z.answer.number) e), omega (arith, ap (λ (z : After). z.answer.failed) e), omega (arith, ap (λ (z : After). z.answer.request_length) e))
        by (joined c l k x y p q few short e) = (
          omega (arith, ap (λ (z : After). z.answer.number) e),
          omega (arith, ap (λ (z : After). z.answer.failed) e),
          omega (arith, ap (λ (z : After). z.answer.request_length) e, joined_length c (length l + length k) (x ++ y)),
        )

    -- JOIN WITHIN: and in the buffer
    pub join_within : a.answer.request_length ≤ length a.buffer
    join_within = by (ends a allowed)
      where
        by : Ends a → a.answer.request_length ≤ length a.buffer
        by (stayed s number failed low high small e) = omega (arith, ap (λ (z : After). z.answer.request_length) e)
        by (joined c l k x y p q few short e) =
            let bytes : List ℕ = joined_bytes c (length l + length k) (x ++ y) in
            omega (arith, ap (λ (z : After). z.answer.request_length) e, ap (λ (z : After). length z.buffer) e, length-append bytes (drop (length bytes) buffer))

    -- both requests may be joined, and what was written is their joining
    pub record Joined : Type 0 where
      pub coding : Coding
      pub one : List Setting
      pub two : List Setting
      pub first_bytes : List ℕ
      pub second_bytes : List ℕ
      pub may_first : Joinable most coding one first_bytes first
      pub may_second : Joinable most coding two second_bytes second
      pub joins : JoinedAs most coding one two first_bytes second_bytes (take a.answer.request_length a.buffer)
      pub bytes_are : take a.answer.request_length a.buffer ≡ joined_bytes coding (length one + length two) (first_bytes ++ second_bytes)
      pub after : a.buffer ≡ written_over (joined_bytes coding (length one + length two) (first_bytes ++ second_bytes)) buffer

    -- JOIN JOINED: where the number is 0
    pub join_joined : CanJoin most → a.answer.number ≡ 0 → Joined
    join_joined can zero = by (ends a allowed)
      where
        by : Ends a → Joined
        by (stayed s number failed low high small e) = absurd (omega (arith, ap (λ (z : After). z.answer.number) e))
        by (joined c l k x y p q few short e) =
            let bytes : List ℕ = joined_bytes c (length l + length k) (x ++ y) in
            let n : length bytes ≡ 8 + length (x ++ y) = joined_length c (length l + length k) (x ++ y) in
            let is : take a.answer.request_length a.buffer ≡ bytes
            = ap (λ (z : After). take z.answer.request_length z.buffer) e ∙ take_at bytes (drop (length bytes) buffer) (length bytes) refl in
            let r : RequestOf c (length l + length k) (x ++ y) bytes
            = joined_request c (length l + length k) (x ++ y) (omega (arith, p.request.counted.some_setting)) (omega arith) (omega (arith, can.stated)) in
            record {
              coding = c;
              one = l;
              two = k;
              first_bytes = x;
              second_bytes = y;
              may_first = sent_joinable most p;
              may_second = sent_joinable most q;
              joins = subst (JoinedAs most c l k x y) (sym is) (record { size = (omega arith, omega arith); few = few; request = r });
              bytes_are = is;
              after = ap (λ (z : After). z.buffer) e;
            }

  -- JOIN JOINS: two requests that may be joined, and may be joined together, are joined in a buffer of the message size
  pub join_joins : {c : Coding} {l k : List Setting} {x y : List ℕ} → Bytes first → Bytes second → Joinable most c l x first → Joinable most c k y second
      → length l + length k ≤ 255 → 8 + length (x ++ y) ≤ most → most ≤ length buffer
      → (a : After) → Answers (joining most first second buffer) a → a ≡ writes most first second buffer (joined_bytes c (length l + length k) (x ++ y))
  join_joins {c} {l} {k} {x} {y} b d p q few short room a z =
      let f = joinable_sent most b p in
      let g = joinable_sent most d q in
      join_determined most first second buffer a (writes most first second buffer (joined_bytes c (length l + length k) (x ++ y))) z
      (inr (
        λ n. omega arith,
        sound_answers most first second buffer false first (λ c l x. one_of most first second buffer true second (both_of most first second buffer c l x)) f.size f.request f.sound f.no_ff _
            (sound_answers most first second buffer true second (both_of most first second buffer c l x) g.size g.request g.sound g.no_ff _
            (inr (λ n. n refl, inr (λ n. omega arith, inr (λ n. omega arith, refl))))),
      ))
