-- The kept hash: a count of 0, or of 1 with a code and a value. Assumes nothing.
use Rattle.std.specs.Prelude.{Option as Maybe, Some, None}
use Rattle.lists.proofs.Kit.{ℕ, ◌+◌, ◌%◌, ◌≤◌, ◌<◌, ◌≡◌, refl, sym, ◌∙◌, subst, subst⁻¹, ◌≢◌, List, [], ◌∷◌, map, none, some, arith, length, drop, take}
use Rattle.lists.specs.Bytes.{Bytes}
use Rattle.lists.specs.Every.{All}
use Rattle.writing.specs.Fields.{bits_of, val, Shows}
use Rattle.writing.specs.Ranges.{HashSize}
use Rattle.writing.specs.Settings.{Hash}
use Rattle.read_fields.specs.Hashes.{HashAt}
use Rattle.read_fields.specs.Places.{FieldsAt, be}
use Rattle.read_fields.specs.declared.hashes.HashPlace.{HashPlace}
use Rattle.read_fields.proofs.Heads.{be_small}
use Rattle.read_fields.proofs.Parts.{nothing}
use Rattle.reports.specs.declared.Asked.TheVariants.{Hash as Hashes}
use Rattle.report_reading.specs.Readers.{ItemAt, KeptAt}
use Rattle.report_reading.specs.declared.items.Item.TheVariants.{Hash as Found, NoHash}
use Rattle.report_reading.specs.Reading.{ItemRead}
use Rattle.report_reading.proofs.HeadLaws.{byte_out, byte_in}

-- bytes that stand somewhere are bytes
value_bytes : (v bs : List ℕ) → Shows (map (val 8) v) bs → All (◌< 256) v
value_bytes [] bs s = tt
value_bytes (b ∷ v) bs s = let (x, r, k, l, e, more) = s in (omega (arith, k), value_bytes v r more)

module _ (m : List ℕ) (p : ℕ) (h : Bytes m) where
  -- ---- a code and a value

  -- none where no byte is left for the code
  pub no_code : (p + 1 ≤ length m → ⊥) → KeptAt m p None
  no_code never x next i y = never (byte_out m p h x.code (map (val 8) x.value) next y).0

  module _ {N : ℕ} (byte : N ≡ be 0 (take 1 (drop p m))) where
    -- the code is the byte
    code_is : (x : Hash) (next : ℕ) → FieldsAt (val 8 x.code ∷ map (val 8) x.value) m p next
        → (N % 256 ≡ x.code) × FieldsAt (map (val 8) x.value) m (p + 1) next
    code_is x next y =
        let (r, e, z) = byte_out m p h x.code (map (val 8) x.value) next y in
        (omega (arith, be_small m p 1 h r), z)

    -- none where it is 0
    pub code_0 : N % 256 ≡ 0 → KeptAt m p None
    code_0 z x next i y = i.1 (sym (code_is x next y).0 ∙ z)

    -- none where no value of the code stands
    pub no_value : {r : Maybe (HashPlace × ℕ)} → HashAt m (p + 1) (N % 256) r → r ≡ None → KeptAt m p None
    no_value at e x next i y =
        let (c, z) = code_is x next y in
        subst (HashAt m (p + 1) (N % 256)) e at x.value next (subst⁻¹ (λ (k : ℕ). HashSize k (length x.value)) c i.0.size) z

    -- the hash where one does
    pub the_value : {r : Maybe (HashPlace × ℕ)} (u : HashPlace) (next : ℕ) → HashAt m (p + 1) (N % 256) r → r ≡ Some (u, next) → N % 256 ≢ 0 → p + 1 ≤ length m
        → KeptAt m p (Some (Found u, next))
    the_value u next at e n room =
        let (v, s, c, size, y) = subst (HashAt m (p + 1) (N % 256)) e at in (
          record { code = N % 256; value = v },
          (u, refl, record { code = c; stands = subst⁻¹ (λ (k : ℕ). FieldsAt (map (val 8) v) m k next) s y }),
          (record { size = size; bytes = value_bytes v (bits_of y.bytes) y.written }, n),
          byte_in m p h (N % 256) (map (val 8) v) next room (omega (arith, be_small m p 1 h room)) y,
        )

  -- ---- the count

  -- none where no byte is left for it
  pub no_count : (p + 1 ≤ length m → ⊥) → ItemAt Hashes m p None
  no_count never none next i y = never (byte_out m p h 0 [] next y).0
  no_count never (some x) next i y = never (byte_out m p h 1 (val 8 x.code ∷ map (val 8) x.value) next y).0

  module _ {N : ℕ} (byte : N ≡ be 0 (take 1 (drop p m))) where
    -- a count of 0
    pub count_0 : p + 1 ≤ length m → N ≡ 0 → ItemAt Hashes m p (Some (NoHash, p + 1))
    count_0 room z = (none, refl, tt, byte_in m p h 0 [] (p + 1) room (sym byte ∙ z) (nothing m (p + 1)))

    -- a count of 1, and what follows it
    pub count_1 : p + 1 ≤ length m → N ≡ 1 → (r : ItemRead) → KeptAt m (p + 1) r → ItemAt Hashes m p r
    count_1 room o (Some (r, next)) (x, says, i, y) =
        (some x, says, i, byte_in m p h 1 (val 8 x.code ∷ map (val 8) x.value) next room (sym byte ∙ o) y)
    count_1 room o None never = go
      where
        go : ItemAt Hashes m p None
        go none next i y = omega (arith, (byte_out m p h 0 [] next y).1)
        go (some x) next i y = never x next i (byte_out m p h 1 (val 8 x.code ∷ map (val 8) x.value) next y).2

    -- no other count
    pub count_more : N ≢ 0 → N ≢ 1 → ItemAt Hashes m p None
    count_more a b none next i y = a (byte ∙ (byte_out m p h 0 [] next y).1)
    count_more a b (some x) next i y = b (byte ∙ (byte_out m p h 1 (val 8 x.code ∷ map (val 8) x.value) next y).1)
