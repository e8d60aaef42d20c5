-- A setting at a place: its type byte, DataLength and fields. Assumes nothing.
use Rattle.lists.proofs.Kit.{ℕ, ◌+◌, ◌-◌, ◌/◌, ◌%◌, ◌≤◌, ◌<◌, ◌≡◌, refl, sym, ap, ◌∙◌, subst, subst⁻¹, List, [], ◌∷◌, Option, none, some, arith, length, get_or, drop, take}
use Rattle.lists.specs.Bytes.{Bytes}
use Rattle.writing.specs.declared.Coding.{Coding}
use Rattle.writing.specs.declared.Kind.{Kind}
use Rattle.writing.specs.declared.Kind.TheVariants.{GroupContacts, IndividualContacts, Lines, Key, QuickTexts, Home, Channels, System, StatusTexts, Group, Individual, LineSlot, Last}
use Rattle.writing.specs.Fields.{val}
use Rattle.writing.specs.Ranges.{text_limits, HashSize, InRange}
use Rattle.writing.specs.Bounds.{bounds, AtMost}
use Rattle.writing.specs.Settings.{Setting, kind}
use Rattle.writing.specs.Writing.{type_byte, body, data_length}
use Rattle.writing.proofs.Bits.{length_bits_of, shows_length}
use Rattle.writing.proofs.ByKind.{Contents, make, of_kind}
use Rattle.writing.proofs.Ends.{all_read}
use Rattle.writing.proofs.Lengths.{within_row}
use Rattle.writing.proofs.Unique.{one_kind, Sized, body_ends}
use Rattle.writing.proofs.Whole.{body_whole}
use Rattle.read_fields.specs.Places.{FieldsAt, StandsAt, be}
use Rattle.settings.specs.TypeTable.{BoundsAre, BoundsAt, most_of}
use Rattle.settings.specs.Meant.{BodyAt}
use Rattle.read_setting.specs.SettingAt.{SettingAt}
use Rattle.settings.specs.declared.type_table.Bounds.{Bounds}
use Rattle.settings.specs.declared.settings.Setting.{Setting as Read}
use Rattle.read_setting.specs.declared.reader.SettingFault.TheVariants.{Unknown, Field as BadField}
use Rattle.std.specs.Prelude.{Option as Maybe, Some, None, Ok, Err}
use Rattle.read_bodies.proofs.FixedLaws.{last_head}
use Rattle.read_fields.proofs.HashLaws.{one_size}
use Rattle.read_fields.proofs.Heads.{head_in, head_out, three_bytes, be_small}
use Rattle.read_fields.proofs.Walk.{agree_at, ends_at}

-- ---- fields by their row

-- the fields of the row's kind are the fields of the kind that its type byte says
pub by_row : (c : Coding) (K k : Kind) (r : Bounds) (left : ℕ) (m : List ℕ) (p : ℕ) (b : Maybe (Read × ℕ)) → BoundsAre c k r → r.type_byte ≡ type_byte K → (BoundsAre c K r → BodyAt c K left m p b)
    → BodyAt c k left m p b
by_row c K k r left m p b is e f =
    let same : k ≡ K = one_kind k K (sym is.type ∙ e) in
    subst⁻¹ (λ (l : Kind). BodyAt c l left m p b) same (f (subst (λ (l : Kind). BoundsAre c l r) same is))

-- ---- two settings of one kind

module _ (c : Coding) (left : ℕ) (m : List ℕ) (p next after : ℕ) (h : Bytes m) where
  -- hash values in range at one place are of one length, since the same code stands before them
  sized_in : (k : Kind) (x y : Contents k) → InRange text_limits left (make k x) → InRange text_limits left (make k y)
      → FieldsAt (body c (make k x)) m p next → FieldsAt (body c (make k y)) m p after → Sized k x y
  sized_in GroupContacts x y i j a b = tt
  sized_in IndividualContacts x y i j a b = tt
  sized_in Lines x y i j a b = tt
  sized_in Key x y i j a b = tt
  sized_in QuickTexts x y i j a b = tt
  sized_in Home x y i j a b = tt
  sized_in Channels x y i j a b = tt
  sized_in System x y i j a b = tt
  sized_in StatusTexts x y i j a b = tt
  sized_in Group x y i j a b = tt
  sized_in Individual x y i j a b = tt
  sized_in LineSlot x y i j a b = tt
  sized_in Last x y i j a b =
      let (r, u, a') = head_out ((last_head c).head x) ((last_head c).tail x) m p 1 refl (omega arith) h next a in
      let (q, v, b') = head_out ((last_head c).head y) ((last_head c).tail y) m p 1 refl (omega arith) h after b in
      let e : x.1.code ≡ y.1.code = omega (arith, u.1.1.0, v.1.1.0) in
      one_size (subst (λ (n : ℕ). HashSize n (length x.1.value)) e i.0) j.0

  -- two settings of one kind, both in range, whose fields stand at one place, are equal and end at one place
  pub body_one : (k : Kind) (s t : Setting) → kind s ≡ k → kind t ≡ k → InRange text_limits left s → InRange text_limits left t
      → FieldsAt (body c s) m p next → FieldsAt (body c t) m p after → (s ≡ t) × (next ≡ after)
  body_one k s t ks kt i j a b =
      let (x, d) = of_kind k s ks in
      let (y, e) = of_kind k t kt in
      let a' : FieldsAt (body c (make k x)) m p next = subst (λ (z : Setting). FieldsAt (body c z) m p next) d a in
      let b' : FieldsAt (body c (make k y)) m p after = subst (λ (z : Setting). FieldsAt (body c z) m p after) e b in
      let n : Sized k x y = sized_in k x y (subst (InRange text_limits left) d i) (subst (InRange text_limits left) e j) a' b' in
      let (same, z) = body_ends c k x y n (agree_at (body c (make k x)) (body c (make k y)) m p next after a' b') in
      (d ∙ ap (make k) same ∙ sym e, ends_at (body c (make k x)) (body c (make k y)) m p next after a' b' (all_read z))

-- ---- type byte and DataLength

module _ (c : Coding) (m : List ℕ) (at : ℕ) (h : Bytes m) where
  -- the first of three bytes, and the other two
  first_of_three : at + 3 ≤ length m
      → (be 0 (take 3 (drop at m)) / 65536 ≡ get_or m at 0) × (be 0 (take 3 (drop at m)) % 65536 ≡ be 0 (take 2 (drop (at + 1) m)))
  first_of_three r =
      let e = three_bytes m at r in
      let small : be 0 (take 2 (drop (at + 1) m)) < 65536 = be_small m (at + 1) 2 h (omega arith) in
      (omega arith, omega arith)

  -- the parts of a setting that stands there
  pub setting_out : (s : Setting) (next : ℕ) → StandsAt c m at next s
      → (at + 3 ≤ length m) × (type_byte (kind s) ≡ get_or m at 0) × (data_length c s ≡ be 0 (take 2 (drop (at + 1) m)))
      × FieldsAt (body c s) m (at + 3) next
  setting_out s next x =
      let (r, k, y) = head_out (val 8 (type_byte (kind s)) ∷ val 16 (data_length c s) ∷ []) (body c s) m at 3 refl (omega arith) h next x in
      let (a, b) = first_of_three r in
      let t : get_or m at 0 < 256 = h at in
      (r, omega (arith, a, k.0), omega (arith, b, k.1.0), y)

  -- the setting where its parts stand there
  pub setting_in : (s : Setting) (next : ℕ) → at + 3 ≤ length m → type_byte (kind s) ≡ get_or m at 0
      → data_length c s ≡ be 0 (take 2 (drop (at + 1) m)) → FieldsAt (body c s) m (at + 3) next → StandsAt c m at next s
  setting_in s next r e d y =
      let (a, b) = first_of_three r in
      let t : get_or m at 0 < 256 = h at in
      head_in (val 8 (type_byte (kind s)) ∷ val 16 (data_length c s) ∷ []) (body c s) m at 3 refl (omega arith) h next r
      (omega (arith, a), (omega (arith, b), tt)) y

  -- DataLength is what the fields take, and itself
  pub length_is : (s : Setting) (next : ℕ) → FieldsAt (body c s) m (at + 3) next → next ≡ at + 1 + data_length c s
  length_is s next y =
      let (n, e) = body_whole c s in
      omega (arith, y.ends, length_bits_of y.bytes, shows_length (body c s) _ y.written)

-- a DataLength of two bytes is at most the row's most
at_most : (o : Option ℕ) (n : ℕ) → AtMost o n → n ≤ 65535 → n ≤ most_of o
at_most none n a l = l
at_most (some k) n a l = a

-- ---- the answers of read_setting

-- the type byte is none of the thirteen
pub no_type : (c : Coding) (left : ℕ) (m : List ℕ) (at : ℕ) {f : Maybe Bounds} → at < length m → BoundsAt c (get_or m at 0) f → f ≡ None → SettingAt c left m at (Err Unknown)
no_type c left m at l found e = (l, subst (BoundsAt c (get_or m at 0)) e found)

module _ (c : Coding) (left : ℕ) (m : List ℕ) (at : ℕ) (h : Bytes m) {f : Maybe Bounds} (r : Bounds) (found : BoundsAt c (get_or m at 0) f) (e : f ≡ Some r) where
  -- the row's kind, which the type byte says
  the_row : (k : Kind) × (type_byte k ≡ get_or m at 0) × BoundsAre c k r
  the_row = subst (BoundsAt c (get_or m at 0)) e found

  -- none stands there where none of the row's kind has this DataLength and fields
  no_setting : at < length m
      → ((s : Setting) (next : ℕ) → BoundsAre c (kind s) r → InRange text_limits left s → at + 3 ≤ length m → data_length c s ≡ be 0 (take 2 (drop (at + 1) m))
      → FieldsAt (body c s) m (at + 3) next → ⊥)
      → SettingAt c left m at (Err BadField)
  no_setting l never =
      let (k, t, is) = the_row in (
        l,
        k,
        t,
        λ s next i x.
            let (room, u, d, y) = setting_out c m at h s next x in
            never s next (subst (λ (z : Kind). BoundsAre c z r) (one_kind k (kind s) (t ∙ sym u)) is) i room d y,
      )

  -- none where fewer than three bytes are left
  pub too_short : at < length m → length m - at < 3 → SettingAt c left m at (Err BadField)
  too_short l short = no_setting l (λ s next is i room d y. omega arith)

  module _ {N : ℕ} (stated : N ≡ be 0 (take 2 (drop (at + 1) m))) (room : at + 3 ≤ length m) where
    -- none where DataLength is below the row's least
    pub too_little : N < r.least → SettingAt c left m at (Err BadField)
    too_little l =
        no_setting (omega arith) (λ s next is i room d y. omega (arith, is.least, (within_row c text_limits left s i).least))

    -- none where it is above the row's most
    pub too_much : r.most < N → SettingAt c left m at (Err BadField)
    too_much l =
        let small : be 0 (take 2 (drop (at + 1) m)) < 65536 = be_small m (at + 1) 2 h (omega arith) in
        no_setting (omega arith) (λ s next is i room d y.
        omega (arith, is.most, at_most (bounds c text_limits (kind s)).most (data_length c s) (within_row c text_limits left s i).most (omega (arith, small, d))))

    module _ {b : Maybe (Read × ℕ)} (fields : (k : Kind) → BoundsAre c k r → BodyAt c k left m (at + 3) b) where
      -- none where no fields of the row's kind stand after DataLength
      pub no_fields : b ≡ None → SettingAt c left m at (Err BadField)
      no_fields z =
          no_setting (omega arith) (λ s next is i room d y. subst (BodyAt c (kind s) left m (at + 3)) z (fields (kind s) is) s next refl i y)

      module _ (q : Read) (next : ℕ) (z : b ≡ Some (q, next)) where
        -- the fields end behind DataLength
        pub behind : at + 3 ≤ next
        behind =
            let (k, t, is) = the_row in
            let (s, ks, means, i, y) = subst (BodyAt c k left m (at + 3)) z (fields k is) in
            omega (arith, y.ends)

        -- none where DataLength is not what the fields take
        pub other_length : (N ≡ next - at - 1 → ⊥) → SettingAt c left m at (Err BadField)
        other_length n =
            no_setting (omega arith) (λ s after is i room d y.
            let (t, kt, means, j, x) = subst (BodyAt c (kind s) left m (at + 3)) z (fields (kind s) is) in
            let (same, ends) = body_one c left m (at + 3) after next h (kind s) s t refl kt i j y x in
            n (omega (arith, d, length_is c m at h s after y)))

        -- the setting where it is
        pub the_setting : N ≡ next - at - 1 → SettingAt c left m at (Ok (q, next))
        the_setting n =
            let (k, t, is) = the_row in
            let (s, ks, means, i, y) = subst (BodyAt c k left m (at + 3)) z (fields k is) in
            (s, means, i, setting_in c m at h s next room (ap type_byte ks ∙ t) (omega (arith, length_is c m at h s next y)) y)
