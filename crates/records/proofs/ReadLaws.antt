-- What reads one after another consume. Assumes nothing.
use Rattle.std.proofs.Common.{◌≡◌, ℕ, ◌+◌, ◌*◌, ◌/◌, ◌%◌, ◌≤◌, ◌<◌, Bool, true, false, List, [], ◌∷◌, ◌++◌, length, take, drop, get_or, refl, sym, ap, ◌∙◌, subst, arith, le_refl, drop_at, length-take-le, length-append, Some}
use Rattle.std.specs.declared.option.Option.{Option}
use Rattle.std.specs.Io.KnownBytes.{Consumes, IsAtEnd}
use Rattle.std.proofs.KnownBytes.{Consumes-trans}
use Rattle.std.proofs.lemmas.Bool.{eqb-true, eqb-false}
use Rattle.std.proofs.Math.Dec.{eqb}
use Rattle.records.specs.declared.Record.{Record}
use Rattle.records.specs.declared.Record.TheVariants.{Whole, TooLong, Cut}
use Rattle.records.specs.Records.{Within, record_of, Reads, Follows, PassesOver}
use Rattle.std.proofs.lemmas.Slice.{take-put_mid_below}
use borrow.Rule.Slice.PartMut.{put_mid, post_of}
use lib.Seq.{take-add, take-append-le}

-- a buffer that is filled up to a place, and read into from there on
pub filled : (a k n : ℕ) (xs ys : List ℕ) → a ≤ length xs → n ≤ length ys → take (a + n) (put_mid a k xs ys) ≡ take a xs ++ take n ys
filled a k n xs ys within fits =
    take-add a n (put_mid a k xs ys)
    ∙ ap (λ l. l ++ take n (drop a (put_mid a k xs ys))) (take-put_mid_below _ _ _ _ _ (le_refl _) within)
    ∙ ap (λ l. take a xs ++ take n l) (drop_at (take a xs) (ys ++ post_of a k xs) a (length-take-le a xs within))
    ∙ ap (λ l. take a xs ++ l) (take-append-le n ys (post_of a k xs) fits)

-- ---- what is passed over

passed_by : (old mid new : Option (List ℕ)) (size k n : ℕ) (bs part : List ℕ) (b : Bool) → eqb n (size % 4096) ≡ b
    → length bs ≡ k * 4096 → k ≡ size / 4096 → Consumes old mid bs
    → length part ≡ size % 4096 → n ≤ length part → Consumes mid new (take n part) → (n < length part → IsAtEnd new) → PassesOver old new size b
passed_by old mid new size k n bs part true e l q p m w c end =
    let same : n ≡ size % 4096 = eqb-true n (size % 4096) e in
    (bs ++ take n part, omega (arith, length-append bs (take n part), length-take-le n part w), Consumes-trans old mid new bs (take n part) p c)
passed_by old mid new size k n bs part false e l q p m w c end =
    let other : n < length part = omega (arith, eqb-false n (size % 4096) e) in
    (bs ++ take n part, omega (arith, length-append bs (take n part), length-take-le n part w), Consumes-trans old mid new bs (take n part) p c, end other)

-- whole chunks, and then the rest
pub passed : (old mid new : Option (List ℕ)) (size k n : ℕ) (bs part : List ℕ)
    → length bs ≡ k * 4096 → k ≡ size / 4096 → Consumes old mid bs
    → length part ≡ size % 4096 → n ≤ length part → Consumes mid new (take n part) → (n < length part → IsAtEnd new)
    → PassesOver old new size (eqb n (size % 4096))
passed old mid new size k n bs part l q p m w c end = passed_by old mid new size k n bs part (eqb n (size % 4096)) refl l q p m w c end

-- ---- a record from its head and its message

-- two bytes
bytes_of : (size low high : ℕ) → low < 256 → size ≡ low + high * 256 → (size % 256 ≡ low) × (size / 256 ≡ high)
bytes_of size low high h e = (omega arith, omega arith)

headed : (a b c d size kind : ℕ) (m : List ℕ) → a < 256 → c < 256 → size ≡ a + b * 256 → kind ≡ c + d * 256 → length m ≡ size
    → a ∷ b ∷ c ∷ d ∷ m ≡ record_of kind m
headed a b c d size kind m h k e f g =
    let (low, high) = bytes_of (length m) a b h (g ∙ e) in
    let (low-kind, high-kind) = bytes_of kind c d k f in
    λ t. sym low t ∷ sym high t ∷ sym low-kind t ∷ sym high-kind t ∷ m

joined : (old mid new : Option (List ℕ)) (buffer : List ℕ) (a b c d size kind : ℕ) (r : Record) → a < 256 → c < 256
    → size ≡ a + b * 256 → kind ≡ c + d * 256 → Consumes old mid (a ∷ b ∷ c ∷ d ∷ []) → Within (length buffer) r
    → Follows mid new buffer kind size r → Reads old new buffer (Some r)
joined old mid new buffer a b c d size kind (Whole k n) h g e f p w (same, all, q) =
    let m = take n buffer in
    subst (Consumes old new) (headed a b c d size k m h g e (same ∙ f) (length-take-le n buffer w ∙ all))
    (Consumes-trans old mid new (a ∷ b ∷ c ∷ d ∷ []) m p (subst (λ i. Consumes mid new (take i buffer)) (sym all) q))
joined old mid new buffer a b c d size kind (TooLong k) h g e f p w (same, m, all, over, q) =
    (m, omega arith, subst (Consumes old new) (headed a b c d size k m h g e (same ∙ f) all) (Consumes-trans old mid new (a ∷ b ∷ c ∷ d ∷ []) m p q))
joined old mid new buffer a b c d size kind Cut h g e f p w (m, short, q, end) =
    (a ∷ b ∷ c ∷ d ∷ m, (omega arith, λ four. omega arith), Consumes-trans old mid new (a ∷ b ∷ c ∷ d ∷ []) m p q, end)

-- behind a head of four bytes
pub behind_head : (old mid new : Option (List ℕ)) (buffer head : List ℕ) (n size kind : ℕ) (r : Record) → length head ≡ 4 → n ≡ 4
    → Consumes old mid (take n head) → get_or head 0 0 < 256 → get_or head 2 0 < 256
    → size ≡ get_or head 0 0 + get_or head 1 0 * 256 → kind ≡ get_or head 2 0 + get_or head 3 0 * 256
    → Within (length buffer) r → Follows mid new buffer kind size r → Reads old new buffer (Some r)
behind_head old mid new buffer [] n size kind r l four p h g e f w q = absurd (omega arith)
behind_head old mid new buffer (a ∷ []) n size kind r l four p h g e f w q = absurd (omega arith)
behind_head old mid new buffer (a ∷ b ∷ []) n size kind r l four p h g e f w q = absurd (omega arith)
behind_head old mid new buffer (a ∷ b ∷ c ∷ []) n size kind r l four p h g e f w q = absurd (omega arith)
behind_head old mid new buffer (a ∷ b ∷ c ∷ d ∷ []) n size kind r l four p h g e f w q =
    joined old mid new buffer a b c d size kind r h g e f (subst (λ i. Consumes old mid (take i (a ∷ b ∷ c ∷ d ∷ []))) four p) w q
behind_head old mid new buffer (a ∷ b ∷ c ∷ d ∷ x ∷ xs) n size kind r l four p h g e f w q = absurd (omega arith)
