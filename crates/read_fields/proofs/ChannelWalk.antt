-- Reading scan channels, two in three bytes. Assumes nothing.
use Rattle.std.specs.Prelude.{Some, None}
use Rattle.lists.proofs.Kit.{ℕ, ◌+◌, ◌-◌, ◌/◌, ◌%◌, ◌≤◌, ◌<◌, ◌≡◌, refl, ap, ap₂, subst, List, [], ◌∷◌, ◌++◌, append-nil, arith, length, drop, take, length-append}
use Rattle.lists.specs.Bytes.{Bytes}
use Rattle.lists.specs.Every.{All}
use Rattle.lists.proofs.Every.{all_append, all_right}
use Rattle.writing.specs.Fields.{val}
use Rattle.writing.specs.Ranges.{InChannel}
use Rattle.writing.proofs.Bits.{length_bits_of}
use Rattle.read_fields.specs.Places.{FieldsAt, be}
use Rattle.read_fields.specs.Entries.{Stand, ChannelsAt, channel_list}
use Rattle.read_fields.proofs.Heads.{head_in, head_out, be_small}
use Rattle.read_fields.proofs.Parts.{nothing}
use Rattle.read_fields.proofs.Walk.{Walked, not_yet, extend}

-- where a walk over the channels stands: these have been passed, all in range, and so many are left
pub record ChannelsPassed (m : List ℕ) (at count p left : ℕ) : Type 0 where
  pub done : List ℕ
  pub counted : length done + left ≡ count
  pub in_range : All InChannel done
  pub walked : Walked channel_list (λ es. length es ≡ count) m at p done

pub no_channel_yet : (m : List ℕ) (at count : ℕ) → ChannelsPassed m at count at count
no_channel_yet m at count =
    record { done = []; counted = omega arith; in_range = tt; walked = not_yet channel_list (λ es. length es ≡ count) m at }

-- two channels in three bytes: the number's halves
pub record Pair (m : List ℕ) (p next : ℕ) (a b : ℕ) (rest : List ℕ) : Type 0 where
  pub room : p + 3 ≤ length m
  pub first : a ≡ be 0 (take 3 (drop p m)) / 4096
  pub second : b ≡ be 0 (take 3 (drop p m)) % 4096
  pub more : FieldsAt (channel_list rest) m (p + 3) next

-- one channel and 1111 in two bytes
pub record Single (m : List ℕ) (p next : ℕ) (a : ℕ) : Type 0 where
  pub room : p + 2 ≤ length m
  pub first : a ≡ be 0 (take 2 (drop p m)) / 16
  pub fill : be 0 (take 2 (drop p m)) % 16 ≡ 15
  pub end : next ≡ p + 2

module _ (m : List ℕ) (p next : ℕ) (h : Bytes m) where
  pub pair_out : (a b : ℕ) (rest : List ℕ) → FieldsAt (channel_list (a ∷ b ∷ rest)) m p next → Pair m p next a b rest
  pair_out a b rest x =
      let (r, k, y) = head_out (val 12 a ∷ val 12 b ∷ []) (channel_list rest) m p 3 refl (omega arith) h next x in
      let s : be 0 (take 3 (drop p m)) < 16777216 = be_small m p 3 h r in
      record { room = r; first = omega (arith, s, k.0); second = omega (arith, s, k.1.0); more = y }

  pub pair_in : (rest : List ℕ) → p + 3 ≤ length m → FieldsAt (channel_list rest) m (p + 3) next
      → FieldsAt (channel_list (be 0 (take 3 (drop p m)) / 4096 ∷ be 0 (take 3 (drop p m)) % 4096 ∷ rest)) m p next
  pair_in rest r y =
      let s : be 0 (take 3 (drop p m)) < 16777216 = be_small m p 3 h r in
      head_in (val 12 (be 0 (take 3 (drop p m)) / 4096) ∷ val 12 (be 0 (take 3 (drop p m)) % 4096) ∷ []) (channel_list rest) m p 3 refl (omega arith) h next r
      (omega (arith, s), (omega (arith, s), tt)) y

  pub single_out : (a : ℕ) → FieldsAt (channel_list (a ∷ [])) m p next → Single m p next a
  single_out a x =
      let (r, k, y) = head_out (val 12 a ∷ val 4 15 ∷ []) [] m p 2 refl (omega arith) h next x in
      let s : be 0 (take 2 (drop p m)) < 65536 = be_small m p 2 h r in
      let e : length y.bytes ≡ 0 = omega (arith, length_bits_of y.bytes, ap length y.written) in
      record { room = r; first = omega (arith, s, k.0); fill = omega (arith, s, k.1.0); end = omega (arith, y.ends) }

pub single_in : (m : List ℕ) (p : ℕ) → Bytes m → p + 2 ≤ length m → be 0 (take 2 (drop p m)) % 16 ≡ 15
    → FieldsAt (channel_list (be 0 (take 2 (drop p m)) / 16 ∷ [])) m p (p + 2)
single_in m p h r f =
    let s : be 0 (take 2 (drop p m)) < 65536 = be_small m p 2 h r in
    head_in (val 12 (be 0 (take 2 (drop p m)) / 16) ∷ val 4 15 ∷ []) [] m p 2 refl (omega arith) h (p + 2) r
    (omega (arith, s), (omega (arith, s), tt)) (nothing m (p + 2))

module _ (m : List ℕ) (at count p left : ℕ) (h : Bytes m) (w : ChannelsPassed m at count p left) where
  -- what is left of a whole list, in range
  rest_of : (es : List ℕ) (next : ℕ) → Stand channel_list InChannel m at count next es
      → (rest : List ℕ) × (length rest ≡ left) × All InChannel rest × FieldsAt (channel_list rest) m p next
  rest_of es next s =
      let (rest, e, y) = w.walked.on es next s.counted s.stands in (
        rest,
        omega (arith, w.counted, s.counted, ap length e, length-append w.done rest),
        all_right InChannel w.done rest (subst (All InChannel) e s.in_range),
        y,
      )

  -- a pair in range that is not there
  pub no_pair : 2 ≤ left → (p + 3 ≤ length m → InChannel (be 0 (take 3 (drop p m)) / 4096) → InChannel (be 0 (take 3 (drop p m)) % 4096) → ⊥)
      → ChannelsAt m at count None
  no_pair l never es next s = let (rest, n, i, y) = rest_of es next s in by rest n i y
    where
      by : (rest : List ℕ) → length rest ≡ left → All InChannel rest → FieldsAt (channel_list rest) m p next → ⊥
      by [] n i y = omega arith
      by (a ∷ []) n i y = omega arith
      by (a ∷ b ∷ rest) n i y =
          let z = pair_out m p next h a b rest y in
          never z.room (subst InChannel z.first i.0) (subst InChannel z.second i.1.0)

  -- a pair in range that is
  pub pair_passed : 2 ≤ left → p + 3 ≤ length m → InChannel (be 0 (take 3 (drop p m)) / 4096) → InChannel (be 0 (take 3 (drop p m)) % 4096)
      → ChannelsPassed m at count (p + 3) (left - 2)
  pair_passed l r i j = record {
    done = w.done ++ two;
    counted = omega (arith, w.counted, length-append w.done two);
    in_range = all_append InChannel w.done two w.in_range (i, (j, tt));
    walked = extend channel_list (λ es. length es ≡ count) m at p (p + 3) w.done two w.walked (λ rest next x. pair_in m p next h rest r x) on;
  }
    where
      two : List ℕ
      two = be 0 (take 3 (drop p m)) / 4096 ∷ be 0 (take 3 (drop p m)) % 4096 ∷ []

      on : (es : List ℕ) (next : ℕ) → length (w.done ++ es) ≡ count → FieldsAt (channel_list es) m p next
          → (rest : List ℕ) × (es ≡ two ++ rest) × FieldsAt (channel_list rest) m (p + 3) next
      on [] next n x = absurd (omega (arith, w.counted, length-append w.done []))
      on (a ∷ []) next n x = absurd (omega (arith, w.counted, length-append w.done (a ∷ [])))
      on (a ∷ b ∷ rest) next n x =
          let z = pair_out m p next h a b rest x in
          (rest, ap₂ (λ (u v : ℕ). u ∷ v ∷ rest) z.first z.second, z.more)

  -- none is left
  pub channels_end : left ≡ 0 → ChannelsAt m at count (Some p)
  channels_end e = (
    w.done,
    record {
      counted = omega (arith, w.counted);
      in_range = w.in_range;
      stands = subst (λ (l : List ℕ). FieldsAt (channel_list l) m at p) (append-nil w.done) (w.walked.back [] p (nothing m p));
    },
  )

  -- a last one in range that is not there
  pub no_last : left ≡ 1 → (p + 2 ≤ length m → be 0 (take 2 (drop p m)) % 16 ≡ 15 → InChannel (be 0 (take 2 (drop p m)) / 16) → ⊥) → ChannelsAt m at count None
  no_last l never es next s = let (rest, n, i, y) = rest_of es next s in by rest n i y
    where
      by : (rest : List ℕ) → length rest ≡ left → All InChannel rest → FieldsAt (channel_list rest) m p next → ⊥
      by [] n i y = omega arith
      by (a ∷ []) n i y = let z = single_out m p next h a y in never z.room z.fill (subst InChannel z.first i.0)
      by (a ∷ b ∷ rest) n i y = omega arith

  -- a last one in range that is
  pub last_ends : left ≡ 1 → p + 2 ≤ length m → be 0 (take 2 (drop p m)) % 16 ≡ 15 → InChannel (be 0 (take 2 (drop p m)) / 16) → ChannelsAt m at count (Some (p + 2))
  last_ends l r f i =
      let a : ℕ = be 0 (take 2 (drop p m)) / 16 in (
        w.done ++ (a ∷ []),
        record {
          counted = omega (arith, w.counted, length-append w.done (a ∷ []));
          in_range = all_append InChannel w.done (a ∷ []) w.in_range (i, tt);
          stands = w.walked.back (a ∷ []) (p + 2) (single_in m p h r f);
        },
      )
