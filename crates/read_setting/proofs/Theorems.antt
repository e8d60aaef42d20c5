-- What reading a setting answers, over any message of bytes, place and count: exactly the setting that stands there, and only one answer. Assumes nothing.
use Rattle.lists.proofs.Kit.{ℕ, ◌≡◌, refl, sym, ap, ◌∙◌, subst, List, [], map, arith, length}
use Rattle.lists.specs.Bytes.{Bytes}
use Rattle.writing.specs.declared.Coding.{Coding}
use Rattle.writing.specs.Fields.{Field, val, each}
use Rattle.writing.specs.Ranges.{text_limits, InRange}
use Rattle.writing.specs.Settings.{Setting, Contact, Addressed, group_contacts, individual_contacts, lines, quick_texts, channels, status_texts, group, individual, line_slot, last, kind}
use Rattle.writing.specs.Writing.{text, number, addressed, contact, quick_text, status_text, fill, fields}
use Rattle.writing.proofs.Ends.{Ends, each_ends, vals_end, regroup}
use Rattle.writing.proofs.Unique.{text_ends, number_ends, address_ends, addressed_ends, contact_ends, quick_ends, status_ends, setting_ends}
use Rattle.read_fields.specs.Entries.{channel_list, ContactIs}
use Rattle.read_fields.specs.Places.{StandsAt}
use Rattle.settings.specs.Meant.{EntriesAre, TextOf, Meant}
use Rattle.read_setting.specs.SettingAt.{SettingAt}
use Rattle.read_fields.specs.declared.entries.ContactPlace.{ContactPlace}
use Rattle.read_fields.specs.declared.texts.TextPlace.{TextPlace}
use Rattle.settings.specs.declared.settings.Entries.{Entries}
use Rattle.settings.specs.declared.settings.Setting.{Setting as Read}
use Rattle.settings.specs.declared.settings.Setting.TheVariants.{GroupContacts, IndividualContacts, Lines, Key, QuickTexts, Home, Channels, System, StatusTexts, Group, Individual, LineSlot, Last}
use Rattle.std.specs.Prelude.{Result, Ok, Err}
use Rattle.read_setting.specs.declared.reader.SettingFault.{SettingFault}
use Rattle.read_setting.specs.declared.reader.SettingFault.TheVariants.{Missing, Unknown, Field as BadField}
use Rattle.read_fields.proofs.HashLaws.{one_size}
use Rattle.read_setting.proofs.SettingLaws.{setting_out}
use Rattle.read_fields.proofs.Walk.{agree_at, one_part}

-- ---- a setting that was read means one setting

-- entries that say where they end, as many as were counted, stand at one place in one way
one_entries : {A : Type 0} (f : Coding → A → List Field) → ((c : Coding) → Ends (f c)) → (m : List ℕ) (p : Entries) (es xs : List A)
    → EntriesAre (λ c. each (f c)) m p es → EntriesAre (λ c. each (f c)) m p xs → es ≡ xs
one_entries f k m p es xs x y =
    let g = f p.coding in
    (each_ends g (k p.coding) es xs (x.counted ∙ sym y.counted) (agree_at (each g es) (each g xs) m p.start p.next p.next x.stands y.stands)).0

-- so do channels
one_channels : (m : List ℕ) (p : Entries) (es xs : List ℕ) → EntriesAre (λ c. channel_list) m p es → EntriesAre (λ c. channel_list) m p xs → es ≡ xs
one_channels m p es xs x y =
    (vals_end 12 es xs (x.counted ∙ sym y.counted)
    (regroup (map (val 12) es) (fill (length es)) (map (val 12) xs) (fill (length xs)) [] []
    (agree_at (channel_list es) (channel_list xs) m p.start p.next p.next x.stands y.stands))).0

-- so does a text
one_text : (m : List ℕ) (p : TextPlace) (us vs : List ℕ) → TextOf m p us → TextOf m p vs → us ≡ vs
one_text m p us vs (n, x) (k, y) = (one_part (text p.coding) (text_ends p.coding) us vs m p.start n k x.stands y.stands).0

-- so does a line contact
one_contact : (m : List ℕ) (p : ContactPlace) (e x : Contact) → ContactIs m p e → ContactIs m p x → e ≡ x
one_contact m p e x a b =
    let number_is = (one_part number number_ends e.number x.number m p.number.start a.middle b.middle a.number.stands b.number.stands).0 in
    let text_is = one_text m p.text e.text x.text (a.end, a.text) (b.end, b.text) in
    λ i. record { number = number_is i; text = text_is i }

-- and contacts with an address, where no two addresses of their kind share a number
one_contacts : {A : Type 0} (number_of_lem : A → ℕ) → ((a b : A) → number_of_lem a ≡ number_of_lem b → a ≡ b) → (m : List ℕ) (p : Entries) (es xs : List (Addressed A))
    → EntriesAre (λ c. each (addressed number_of_lem c)) m p es → EntriesAre (λ c. each (addressed number_of_lem c)) m p xs → es ≡ xs
one_contacts number_of_lem one = one_entries (addressed number_of_lem) (addressed_ends number_of_lem (address_ends number_of_lem one))

-- MEANT ONE: what a setting that was read means, in one message, is one setting
pub meant_one : (m : List ℕ) (r : Read) (s t : Setting) → Meant m r s → Meant m r t → s ≡ t
meant_one m (GroupContacts o f p) s t (es, d, x) (xs, e, y) =
    d ∙ ap (group_contacts o f) (one_contacts (λ a. a.0) (λ a b q. λ i. record { 0 = q i }) m p es xs x y) ∙ sym e
meant_one m (IndividualContacts o f p) s t (es, d, x) (xs, e, y) =
    d ∙ ap (individual_contacts o f) (one_contacts (λ a. a.0) (λ a b q. λ i. record { 0 = q i }) m p es xs x y) ∙ sym e
meant_one m (Lines o f p) s t (es, d, x) (xs, e, y) = d ∙ ap (lines o f) (one_entries contact contact_ends m p es xs x y) ∙ sym e
meant_one m (Key a f) s t d e = d ∙ sym e
meant_one m (QuickTexts o p) s t (es, d, x) (xs, e, y) = d ∙ ap (quick_texts o) (one_entries quick_text quick_ends m p es xs x y) ∙ sym e
meant_one m (Home h) s t d e = d ∙ sym e
meant_one m (Channels o p) s t (es, d, x) (xs, e, y) = d ∙ ap (channels o) (one_channels m p es xs x y) ∙ sym e
meant_one m (System c) s t d e = d ∙ sym e
meant_one m (StatusTexts o p) s t (es, d, x) (xs, e, y) = d ∙ ap (status_texts o) (one_entries status_text status_ends m p es xs x y) ∙ sym e
meant_one m (Group o f p) s t (us, d, x) (vs, e, y) =
    d ∙ ap (λ (u : List ℕ). group o f (record { index = p.index; address = p.address; text = u })) (one_text m p.text us vs x y) ∙ sym e
meant_one m (Individual o f p) s t (us, d, x) (vs, e, y) =
    d ∙ ap (λ (u : List ℕ). individual o f (record { index = p.index; address = p.address; text = u })) (one_text m p.text us vs x y) ∙ sym e
meant_one m (LineSlot o f p) s t (es, d, x) (xs, e, y) =
    d ∙ ap (λ (z : Contact). line_slot o f (record { index = p.index; address = z.number; text = z.text })) (one_contact m p.contact es xs x y) ∙ sym e
meant_one m (Last f p) s t (v, d, x, n) (w, e, y, k) =
    d ∙ ap (λ (z : List ℕ). last f (record { code = p.code; value = z }))
    (vals_end 8 v w (one_size n k) (agree_at (map (val 8) v) (map (val 8) w) m p.start _ _ x y)).0 ∙ sym e

-- ---- the answers that are allowed

-- the answer is not a setting
abbrev pub Refused : Result (Read × ℕ) SettingFault → Type 0
Refused (Ok (r, next)) = ⊥
Refused (Err f) = Unit {0}

-- no setting in range stands at the place, where so many settings are still counted after it
abbrev pub NoneStands : Coding → ℕ → List ℕ → ℕ → Type 0
NoneStands c left m at = (s : Setting) (next : ℕ) → InRange text_limits left s → StandsAt c m at next s → ⊥

-- the second answer is the first, up to what a setting that was read means
abbrev pub SameAnswer : List ℕ → Result (Read × ℕ) SettingFault → Result (Read × ℕ) SettingFault → Type 0
SameAnswer m (Ok (r, next)) b = (q : Read) × (s : Setting) × (b ≡ Ok (q, next)) × Meant m r s × Meant m q s
SameAnswer m (Err Missing) b = b ≡ (Err Missing)
SameAnswer m (Err Unknown) b = b ≡ (Err Unknown)
SameAnswer m (Err BadField) b = b ≡ (Err BadField)

module _ (c : Coding) (left : ℕ) (m : List ℕ) (at : ℕ) (h : Bytes m) where
  -- where a refusal is allowed, none stands there
  none_stands : (a : Result (Read × ℕ) SettingFault) → SettingAt c left m at a → Refused a → NoneStands c left m at
  none_stands (Ok (r, after)) z n s next i x = absurd n
  none_stands (Err Missing) z n s next i x = omega (arith, z, (setting_out c m at h s next x).0)
  none_stands (Err Unknown) z n s next i x = z.1 (kind s) (setting_out c m at h s next x).1
  none_stands (Err BadField) z n s next i x = z.3 s next i x

  -- REFUSED EXACTLY: an allowed answer is a refusal exactly where no setting in range stands at the place
  pub refused_exactly : (a : Result (Read × ℕ) SettingFault) → SettingAt c left m at a → (Refused a → NoneStands c left m at) × (NoneStands c left m at → Refused a)
  refused_exactly a z = (none_stands a z, other a z)
    where
      -- a setting that is taken stands there
      other : (b : Result (Read × ℕ) SettingFault) → SettingAt c left m at b → NoneStands c left m at → Refused b
      other (Ok (r, next)) (s, means, i, x) none = none s next i x
      other (Err Missing) y none = tt
      other (Err Unknown) y none = tt
      other (Err BadField) y none = tt

  -- READ EXACTLY: an allowed answer is taken, up to this place and with this meaning, exactly where this setting stands at the place, in range, up to there
  pub read_exactly : (a : Result (Read × ℕ) SettingFault) → SettingAt c left m at a → (s : Setting) (next : ℕ)
      → (InRange text_limits left s → StandsAt c m at next s → (r : Read) × (a ≡ Ok (r, next)) × Meant m r s)
      × ((r : Read) → a ≡ Ok (r, next) → Meant m r s → InRange text_limits left s × StandsAt c m at next s)
  read_exactly a z s next = (there a z, back)
    where
      -- what stands there is taken
      there : (b : Result (Read × ℕ) SettingFault) → SettingAt c left m at b → InRange text_limits left s → StandsAt c m at next s → (r : Read) × (b ≡ Ok (r, next)) × Meant m r s
      there (Ok (r, after)) (t, means, j, y) i x =
          let (same, ends) = one_part (fields c) (setting_ends c) t s m at after next y x in
          (r, ap (λ (n : ℕ). Ok (r, n)) ends, subst (Meant m r) same means)
      there (Err Missing) y i x = absurd (none_stands (Err Missing) y tt s next i x)
      there (Err Unknown) y i x = absurd (none_stands (Err Unknown) y tt s next i x)
      there (Err BadField) y i x = absurd (none_stands (Err BadField) y tt s next i x)

      -- what is taken stands there
      back : (r : Read) → a ≡ Ok (r, next) → Meant m r s → InRange text_limits left s × StandsAt c m at next s
      back r e means =
          let (t, also, i, x) = subst (SettingAt c left m at) e z in
          let same : t ≡ s = meant_one m r t s also means in
          (subst (InRange text_limits left) same i, subst (StandsAt c m at next) same x)

  -- DETERMINED: of two allowed answers, both are taken, up to one place and with one meaning, or both are the same refusal
  pub setting_determined : (a b : Result (Read × ℕ) SettingFault) → SettingAt c left m at a → SettingAt c left m at b → SameAnswer m a b
  setting_determined (Ok (r, next)) b (s, means, i, x) y =
      let (q, e, also) = (read_exactly b y s next).0 i x in
      (q, s, e, means, also)
  setting_determined (Err Missing) (Ok (q, after)) z (t, means, j, y) = absurd (none_stands (Err Missing) z tt t after j y)
  setting_determined (Err Missing) (Err Missing) z y = refl
  setting_determined (Err Missing) (Err Unknown) z y = absurd (omega (arith, z, y.0))
  setting_determined (Err Missing) (Err BadField) z y = absurd (omega (arith, z, y.0))
  setting_determined (Err Unknown) (Ok (q, after)) z (t, means, j, y) = absurd (none_stands (Err Unknown) z tt t after j y)
  setting_determined (Err Unknown) (Err Missing) z y = absurd (omega (arith, y, z.0))
  setting_determined (Err Unknown) (Err Unknown) z y = refl
  setting_determined (Err Unknown) (Err BadField) z y = absurd (z.1 y.1 y.2)
  setting_determined (Err BadField) (Ok (q, after)) z (t, means, j, y) = absurd (none_stands (Err BadField) z tt t after j y)
  setting_determined (Err BadField) (Err Missing) z y = absurd (omega (arith, y, z.0))
  setting_determined (Err BadField) (Err Unknown) z y = absurd (y.1 z.1 z.2)
  setting_determined (Err BadField) (Err BadField) z y = refl
