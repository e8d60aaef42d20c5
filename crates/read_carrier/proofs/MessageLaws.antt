-- What follows the first data byte of version 1: a request's count, a result query's hash. Assumes nothing.
use Rattle.lists.proofs.Kit.{ℕ, ◌+◌, ◌%◌, ◌≤◌, ◌<◌, ◌≡◌, refl, sym, ap, ◌∙◌, subst, subst⁻¹, ◌≢◌, List, [], ◌∷◌, ◌++◌, map, append-nil, arith, length, drop, take, length-drop, drop-length}
use Rattle.lists.specs.Bytes.{Bytes}
use Rattle.writing.specs.Fields.{bits_of, val, res, Shows}
use Rattle.writing.specs.declared.Coding.{Coding}
use Rattle.writing.specs.declared.Coding.TheVariants.{Unicode16, EightBit}
use Rattle.writing.specs.Settings.{Hash}
use Rattle.writing.specs.Writing.{request_head}
use Rattle.writing.specs.Ranges.{HashSize}
use Rattle.writing.specs.Carrier.{Carries, coding_type, first_byte, Opens, Counted, query, Query, InSize}
use Rattle.read_fields.specs.Places.{FieldsAt, be}
use Rattle.read_fields.specs.Hashes.{HashAt}
use Rattle.read_carrier.specs.Message.{MessageIs}
use Rattle.read_carrier.specs.declared.carrier.Message.TheVariants.{NoRequest, Request, NoQuery, Query as AQuery}
use Rattle.read_fields.specs.declared.hashes.HashPlace.{HashPlace}
use Rattle.std.specs.Prelude.{Option, Some, None}
use Rattle.read_fields.proofs.Heads.{Cut, head_in, head_out, be_small}
use Rattle.read_fields.proofs.Parts.{nothing}
use Rattle.read_fields.proofs.HashLaws.{one_size, bytes_out}
use Rattle.read_carrier.proofs.CarrierLaws.{wide_bytes, part_rest, carries_one, opens_cut, opens_room}

-- a number that is neither coding type is that of no coding
pub other_coding : {n : ℕ} → n ≢ 7 → n ≢ 4 → (c : Coding) → n ≡ coding_type c → ⊥
other_coding a b Unicode16 e = a e
other_coding a b EightBit e = b e

module _ (m : List ℕ) (h : Bytes m) (coding : ℕ) {M : ℕ} (byte : M ≡ be 0 (take 1 (drop 7 m))) where
  -- the byte after the first data byte is small
  small : 8 ≤ length m → M < 256
  small room = rw byte (be_small m 7 1 h room)

  -- ---- requests

  -- a request's count is that byte
  counted_out : (count : ℕ) (settings : List ℕ) → Counted count settings (drop 6 m) → (8 ≤ length m) × (count ≡ M % 256)
  counted_out count settings k =
      let n : length k.head ≡ 2 = wide_bytes (request_head count) 2 k.head refl k.says in
      let p : FieldsAt (first_byte 1 0 ++ val 8 count ∷ []) m 6 8
      = record { bytes = k.head; rest = settings; split = k.parts; ends = omega arith; written = k.says } in
      let (r, c, q) = head_out (first_byte 1 0) (val 8 count ∷ []) m 6 1 refl (omega arith) h 8 p in
      let (r', c', q') = head_out (val 8 count ∷ []) [] m 7 1 refl (omega arith) h 8 q in
      let d = subst (Cut (val 8 count ∷ [])) (sym byte) c' in
      (r', omega (arith, d.0))

  -- no request where coding type or count are not those of one
  pub no_request : (most : ℕ) → Opens 1 0 coding (drop 6 m) m → ((c : Coding) (count : ℕ) → coding ≡ coding_type c → 8 ≤ length m → count ≡ M % 256 → 1 ≤ count → ⊥)
      → InSize most m → MessageIs most m NoRequest
  no_request most o never i =
      (i, coding, drop 6 m, o, λ c count settings e k. let (r, n) = counted_out count settings k in never c count e r n k.some_setting)

  -- a request where they are
  pub the_request : (most : ℕ) (c : Coding) → Opens 1 0 coding (drop 6 m) m → coding ≡ coding_type c → 8 ≤ length m → 1 ≤ M % 256 → InSize most m
      → MessageIs most m (Request (M % 256) 8 c)
  the_request most c o e room some i =
      let p : FieldsAt (request_head (M % 256)) m 6 8 = head_in (first_byte 1 0) (val 8 (M % 256) ∷ []) m 6 1 refl (omega arith) h 8 (omega arith) (opens_cut o)
      (head_in (val 8 (M % 256) ∷ []) [] m 7 1 refl (omega arith) h 8 room (subst (Cut (val 8 (M % 256) ∷ [])) byte (omega arith, tt)) (nothing m 8)) in (
        i,
        drop 6 m,
        subst (λ (k : ℕ). Carries k (drop 6 m) m) e o.carried,
        record { head = p.bytes; parts = part_rest p; says = p.written; some_setting = some },
        refl,
      )

  -- ---- result queries

  -- a query's code is in that byte, and its value after it up to the end
  query_out : (x : Hash) → Opens 1 5 coding (drop 6 m) m → Query x m
      → (8 ≤ length m) × (x.code ≡ M % 64) × FieldsAt (map (val 8) x.value) m 8 (length m)
  query_out x o k =
      let e : k.data_bytes ≡ drop 6 m = (carries_one k.carried o.carried).1 in
      let p : FieldsAt (first_byte 1 5 ++ (res 2 ∷ val 6 x.code ∷ map (val 8) x.value)) m 6 (length m) = record {
        bytes = k.data_bytes;
        rest = [];
        split = sym e ∙ sym (append-nil k.data_bytes);
        ends = omega (arith, ap length e, length-drop 6 m, opens_room o);
        written = k.written;
      } in
      let (r, c, q) = head_out (first_byte 1 5) (res 2 ∷ val 6 x.code ∷ map (val 8) x.value) m 6 1 refl (omega arith) h (length m) p in
      let (r', c', q') = head_out (res 2 ∷ val 6 x.code ∷ []) (map (val 8) x.value) m 7 1 refl (omega arith) h (length m) q in
      let d = subst (Cut (res 2 ∷ val 6 x.code ∷ [])) (sym byte) c' in
      (r', omega (arith, d.1.0), q')

  -- no query where no hash of that code ends the message
  pub no_query : (most : ℕ) → Opens 1 5 coding (drop 6 m) m
      → ((v : List ℕ) → 8 ≤ length m → HashSize (M % 64) (length v) → FieldsAt (map (val 8) v) m 8 (length m) → ⊥)
      → InSize most m → MessageIs most m NoQuery
  no_query most o never i = (
    i,
    coding,
    drop 6 m,
    o,
    λ x k.
        let (r, c, p) = query_out x o k in
        never x.value r (subst (λ (n : ℕ). HashSize n (length x.value)) c k.in_range) p,
  )

  -- none where no value of its code stands
  pub no_query_value : (most : ℕ) {r : Option (HashPlace × ℕ)} → Opens 1 5 coding (drop 6 m) m → HashAt m 8 (M % 64) r → r ≡ None → InSize most m → MessageIs most m NoQuery
  no_query_value most o s e = no_query most o (λ v room n p. subst (HashAt m 8 (M % 64)) e s v (length m) n p)

  module _ (most : ℕ) {r : Option (HashPlace × ℕ)} (x : HashPlace) (next : ℕ) (o : Opens 1 5 coding (drop 6 m) m) (s : HashAt m 8 (M % 64) r) (e : r ≡ Some (x, next)) where
    -- none where bytes follow the value
    pub query_goes_on : next ≢ length m → InSize most m → MessageIs most m NoQuery
    query_goes_on n = no_query most o (λ v room z p.
        let (w, d, c, k, q) = subst (HashAt m 8 (M % 64)) e s in
        n ((bytes_out m 8 h w next q).1 ∙ ap (λ (i : ℕ). 8 + i) (one_size k z) ∙ sym (bytes_out m 8 h v (length m) p).1))

    -- a query where it ends the message
    pub the_query : 8 ≤ length m → next ≡ length m → InSize most m → MessageIs most m (AQuery x)
    the_query room n i =
        let (w, d, c, k, q) = subst (HashAt m 8 (M % 64)) e s in
        let q' : FieldsAt (map (val 8) w) m 8 (length m) = subst (FieldsAt (map (val 8) w) m 8) n q in
        let y : Hash = record { code = M % 64; value = w } in
        let p : FieldsAt (query y) m 6 (length m)
        = head_in (first_byte 1 5) (res 2 ∷ val 6 (M % 64) ∷ map (val 8) w) m 6 1 refl (omega arith) h (length m) (omega arith) (opens_cut o)
        (head_in (res 2 ∷ val 6 (M % 64) ∷ []) (map (val 8) w) m 7 1 refl (omega arith) h (length m) room
        (subst (Cut (res 2 ∷ val 6 (M % 64) ∷ [])) byte (tt, (omega arith, tt))) q') in
        let z : drop 6 m ≡ p.bytes = part_rest p ∙ ap (λ (l : List ℕ). p.bytes ++ l) (drop-length m) ∙ append-nil p.bytes in (
          i,
          y,
          record {
            any_coding = coding;
            data_bytes = drop 6 m;
            carried = o.carried;
            written = subst⁻¹ (λ (l : List ℕ). Shows (query y) (bits_of l)) z p.written;
            in_range = k;
          },
          sym c,
          subst⁻¹ (λ (a : ℕ). FieldsAt (map (val 8) w) m a (length m)) d q',
        )
