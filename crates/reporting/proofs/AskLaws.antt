-- What a query asks for: a byte's type, and the types behind its head. Assumes nothing.
use Rattle.lists.proofs.Kit.{ℕ, ◌+◌, ◌-◌, ◌≤◌, ◌<◌, ◌≡◌, refl, sym, ap, ◌∙◌, ◌≢◌, Bool, true, false, none, List, [], ◌∷◌, ◌++◌, arith, eqb, length, drop, take, length-append, length-drop, take_all, ne_eqb, eqb-true, eqb-false}
use Rattle.lists.specs.Bytes.{Bytes}
use Rattle.writing.specs.Carrier.{Opens, InSize, NothingCarried, first_byte}
use Rattle.writing.specs.Fields.{val}
use Rattle.read_fields.specs.Places.{FieldsAt, be}
use Rattle.read_fields.proofs.Heads.{head_in, head_out, be_small}
use Rattle.read_fields.proofs.Parts.{nothing}
use Rattle.read_carrier.proofs.CarrierLaws.{wide_bytes, part_rest, carries_one, opens_cut, opens_as}
use Rattle.read_carrier.proofs.KindLaws.{other_kind, other_version}
use Rattle.reports.specs.Reports.{query_head, TypesOf}
use Rattle.reports.specs.Types.{asked_by}
use Rattle.reporting.specs.declared.answers.NoReport.TheVariants.{OtherType, Version, BadQuery}
use Rattle.std.specs.Prelude.{Err}
use Rattle.reporting.specs.Asking.{TypesIs, QueryIs}

-- a byte that is none of the ten asks for nothing
pub asks_nothing : (b : ℕ) → b ≢ 0xC8 → b ≢ 0xC9 → b ≢ 0xCA → b ≢ 0xCB → b ≢ 0xCC → b ≢ 0xCD → b ≢ 0xCE → b ≢ 0xCF → b ≢ 0xD0 → b ≢ 0xFF → asked_by b ≡ none
asks_nothing b p0 p1 p2 p3 p4 p5 p6 p7 p8 p9 =
    rw (ne_eqb 0xC8 b (λ e. p0 (sym e)), ne_eqb 0xC9 b (λ e. p1 (sym e)), ne_eqb 0xCA b (λ e. p2 (sym e)), ne_eqb 0xCB b (λ e. p3 (sym e)), ne_eqb 0xCC b (λ e. p4 (sym e)), ne_eqb 0xCD b (λ e. p5 (sym e)), ne_eqb 0xCE b (λ e. p6 (sym e)), ne_eqb 0xCF b (λ e. p7 (sym e)), ne_eqb 0xD0 b (λ e. p8 (sym e)), ne_eqb 0xFF b (λ e. p9 (sym e)))

module _ (m : List ℕ) (h : Bytes m) {coding : ℕ} (o : Opens 1 2 coding (drop 6 m) m) where
  -- a query's types stand from byte 8 on, and byte 7 counts them
  types_out : (types : List ℕ) → TypesOf types m → (8 ≤ length m) × (length m ≡ 8 + length types) × (be 0 (take 1 (drop 7 m)) ≡ length types)
  types_out types q =
      let e : q.data_bytes ≡ drop 6 m = (carries_one q.carried o.carried).1 in
      let n : length q.head ≡ 2 = wide_bytes (query_head (length types)) 2 q.head refl q.says in
      let d : drop 6 m ≡ q.head ++ types = sym e ∙ q.parts in
      let p : FieldsAt (first_byte 1 2 ++ val 8 (length types) ∷ []) m 6 8
      = record { bytes = q.head; rest = types; split = d; ends = omega arith; written = q.says } in
      let (r, c, s) = head_out (first_byte 1 2) (val 8 (length types) ∷ []) m 6 1 refl (omega arith) h 8 p in
      let (r', c', s') = head_out (val 8 (length types) ∷ []) [] m 7 1 refl (omega arith) h 8 s in
      let l : length (drop 6 m) ≡ length (q.head ++ types) = ap length d in
      (r', omega (arith, l, n, length-append q.head types, length-drop 6 m), omega (arith, c'.0, be_small m 7 1 h r'))

  -- and they do where it counts the bytes behind it
  types_in : 8 ≤ length m → be 0 (take 1 (drop 7 m)) ≡ length m - 8 → 1 ≤ length m - 8 → TypesIs m true
  types_in room e some =
      let n : length (drop 8 m) ≡ be 0 (take 1 (drop 7 m)) = omega (arith, length-drop 8 m) in
      let p : FieldsAt (query_head (length (drop 8 m))) m 6 8 = head_in (first_byte 1 2) (val 8 (length (drop 8 m)) ∷ []) m 6 1 refl (omega arith) h 8 (omega arith) (opens_cut o)
      (head_in (val 8 (length (drop 8 m)) ∷ []) [] m 7 1 refl (omega arith) h 8 room (omega (arith, be_small m 7 1 h room), tt) (nothing m 8)) in (
        record {
          any_coding = coding;
          data_bytes = drop 6 m;
          carried = o.carried;
          head = p.bytes;
          parts = part_rest p;
          says = p.written;
          some_type = omega (arith, length-drop 8 m);
        },
        omega (arith, be_small m 7 1 h room),
      )

  -- the message is too short
  pub types_short : length m < 8 → TypesIs m false
  types_short s types q = omega (arith, (types_out types q).0)

  module _ {M : ℕ} (byte : M ≡ be 0 (take 1 (drop 7 m))) where
    -- it counts none
    pub types_none : M ≡ 0 → TypesIs m false
    types_none z types q = let (r, l, n) = types_out types q in omega (arith, q.some_type)

    -- the count decides
    pub types_by : 8 ≤ length m → M ≢ 0 → (r : Bool) → eqb M (length m - 8) ≡ r → TypesIs m r
    types_by room z true e = types_in room (sym byte ∙ eqb-true M (length m - 8) e) (omega (arith, z, eqb-true M (length m - 8) e))
    types_by room z false e = λ types q. let (r, l, n) = types_out types q in eqb-false M (length m - 8) e (omega arith)

module _ (most : ℕ) (m : List ℕ) {version kind coding : ℕ} (i : InSize most m) (o : Opens version kind coding (drop 6 m) m) where
  carried : NothingCarried m → ⊥
  carried n = n coding (drop 6 m) o.carried

  pub query_other : kind ≢ 2 → QueryIs most m (Err OtherType)
  query_other n = (i, carried, other_kind o (◌≡ 2) n)

  pub query_version : kind ≡ 2 → version ≢ 1 → QueryIs most m (Err Version)
  query_version e n = (i, carried, λ k. k version kind coding (drop 6 m) e o, other_version o n)

  pub query_none : kind ≡ 2 → version ≡ 1 → TypesIs m false → QueryIs most m (Err BadQuery)
  query_none e v n = (i, carried, λ k. k version kind coding (drop 6 m) e o, λ k. k kind coding (drop 6 m) (opens_as v refl o), n)

-- the part of a query behind its head
module _ (m : List ℕ) (q : TypesIs m true) where
  pub query_long : 8 ≤ length m
  query_long = omega (arith, q.0.some_type, length-drop 8 m)

  pub types_are : take (length m - 8) (drop 8 m) ≡ drop 8 m
  types_are = take_all (length m - 8) (drop 8 m) (omega (arith, length-drop 8 m))
