-- FITTING: every exported setting has a writing and is in range; how many there are, and how many bytes they take. Assumes nothing.
use Rattle.lists.proofs.Kit.{ℕ, zero, suc, ◌+◌, ◌*◌, ◌≤◌, ◌<◌, ◌≡◌, ap, subst⁻¹, ◌∙◌, List, [], ◌∷◌, map, Option, none, some, arith, length, take, drop, length-append, length-take, length-drop, length-map, take-append-drop}
use Rattle.lists.specs.Every.{All}
use Rattle.lists.proofs.Every.{all_map, all_right, all_take}
use Rattle.slots.specs.Slots.{Present}
use Rattle.writing.specs.Canonical.{Fits, canonical, canonical_all}
use Rattle.writing.specs.Ranges.{text_limits, InRange}
use Rattle.writing.specs.Settings.{Text, Entry, Setting, unicode16}
use Rattle.tables.specs.declared.limits.Limits.{Limits}
use Rattle.tables.specs.Allowed.{Allowed, QuickOk, StatusOk, LineOk, GroupOk, IndividualOk, PlacesOk}
use Rattle.tables.specs.Limits.{slot_places}
use Rattle.tables.specs.Tables.{Tables}
use Rattle.requests.specs.Requests.{item_of}
use Rattle.export.specs.declared.parts.Part.{Part}
use Rattle.export.specs.declared.parts.Part.TheVariants.{Lines, Fixed, QuickTexts, Channels, StatusTexts, Groups, Individuals, GroupContacts, IndividualContacts, LineSlots}
use Rattle.export_write.specs.ContactSettings.{contact_add}
use Rattle.export_write.specs.LineSettings.{line_add, line_slot_setting}
use Rattle.export_write.specs.EntrySettings.{entries, quick_add, slots}
use Rattle.export_write.specs.MemberWriters.{member_setting}
use Rattle.tables.specs.declared.members.Members.TheVariants.{OfGroups, OfIndividuals}
use Rattle.export_write.proofs.SlotWriting.{slots_length}
use Rattle.export_write.proofs.TextLists.{entries_few}
use Rattle.export.specs.Exported.{exported}
use Rattle.export.specs.Exportable.{Exportable}
use Rattle.restore.specs.Restored.{longest_settings}
use Rattle.restore.proofs.Readable.{Readable, EntryIn, QuickEntry, StatusEntry, lines_readable, line_readable, key_readable, home_readable, system_readable, quick_replace_readable, quick_add_readable, status_readable, channels_readable, clearing_readable, contact_readable, member_readable, line_slot_readable}

-- ---- settings one after the other

-- settings that have writings of at most so many bytes together, are in range wherever they stand, and no FF
pub record AllReadable (most : ℕ) (ss : List Setting) : Type 0 where
  pub fits : All (Fits unicode16) ss
  pub ranged : All (λ s. (left : ℕ) → InRange text_limits left s) ss
  pub no_last : All (λ s. item_of s ≡ none) ss
  pub small : length (canonical_all unicode16 ss) ≤ most

none_left : (most : ℕ) → AllReadable most []
none_left most = record { fits = tt; ranged = tt; no_last = tt; small = omega arith }

-- one before others
before : {v w most : ℕ} (s : Setting) (ss : List Setting) → Readable v s → AllReadable w ss → v + w ≤ most → AllReadable most (s ∷ ss)
before s ss p q h = record {
  fits = (p.fits, q.fits);
  ranged = (p.ranged, q.ranged);
  no_last = (p.no_last, q.no_last);
  small = omega (arith, length-append (canonical unicode16 s) (canonical_all unicode16 ss), p.small, q.small);
}

-- settings of at most so many bytes each
of_each : (w : ℕ) (ss : List Setting) → All (Readable w) ss → AllReadable (length ss * w) ss
of_each w [] p = none_left (zero * w)
of_each w (s ∷ ss) p = before s ss p.0 (of_each w ss p.1) (omega arith)

-- at most so many bytes are at most more
at_most : {v w : ℕ} {ss : List Setting} → v ≤ w → AllReadable v ss → AllReadable w ss
at_most h p = record { fits = p.fits; ranged = p.ranged; no_last = p.no_last; small = omega (arith, p.small) }

-- ---- the entries of a table of texts

-- each has the index of its place, and its text
entries_each : (P : Text → Type 0) (from below i : ℕ) (l : List (Option Text)) → from ≤ i → i + length l ≤ below → All (Present P) l → All (EntryIn P from below) (entries i l)
entries_each P from below i [] a b p = tt
entries_each P from below i (none ∷ l) a b p = entries_each P from below (suc i) l (omega arith) (omega arith) p.1
entries_each P from below i (some us ∷ l) a b p = (record { low = a; high = omega arith; text = p.0 }, entries_each P from below (suc i) l (omega arith) (omega arith) p.1)

-- ---- a list that is cleared, then added to

-- settings of one entry each
module _ {A : Type 0} (P : A → Type 0) (setting : A → Setting) (w : ℕ) (each : (a : A) → P a → Readable w (setting a)) where
  cleared_readable : {v most : ℕ} (clear : Setting) → Readable v clear → (ls : List A) → All P ls → v + length ls * w ≤ most → AllReadable most (clear ∷ map setting ls)
  cleared_readable clear c ls p h =
      before clear (map setting ls) c (of_each w (map setting ls) (all_map P (Readable w) setting each ls p)) (rw (length-map ls setting) h)

-- ---- the settings of a table of slots

module _ {A : Type 0} (setting : ℕ → Option A → Setting) (P : A → Type 0) (w : ℕ) (each : (i : ℕ) → i < slot_places → (o : Option A) → Present P o → Readable w (setting i o)) where
  -- each by itself
  slots_each : (i : ℕ) (l : List (Option A)) → i + length l ≤ slot_places → All (Present P) l → All (Readable w) (slots setting i l)
  slots_each i [] h p = tt
  slots_each i (o ∷ l) h p = (each i (omega arith) o p.0, slots_each (suc i) l (omega arith) p.1)

  -- all sixteen
  slots_readable : {most : ℕ} (l : List (Option A)) → PlacesOk P slot_places l → slot_places * w ≤ most → AllReadable most (slots setting 0 l)
  slots_readable l (n, p) h =
      let many : length (slots setting 0 l) ≡ slot_places = slots_length setting 0 l ∙ n in
      at_most (rw many h) (of_each w (slots setting 0 l) (slots_each 0 l (omega arith) p))

-- ---- the parts

module _ (lim : Limits) (x : Exportable lim) (t : Tables) (ok : Allowed lim t) where
  quick_entries : All QuickEntry (entries 0 t.quick)
  quick_entries = entries_each QuickOk 0 64 0 t.quick (omega arith) (omega (arith, ok.quick.0)) ok.quick.1

  status_entries : All StatusEntry (entries 32 t.status)
  status_entries = entries_each StatusOk 32 128 32 t.status (omega arith) (omega (arith, ok.status.0)) ok.status.1

  -- READABLE: every exported setting has a writing and is in range, none is an FF, and their bytes have a limit
  pub exported_readable : (p : Part) → AllReadable (longest_settings lim p) (exported p t)
  exported_readable Lines =
      cleared_readable LineOk line_add 49 line_readable _ lines_readable t.lines ok.lines.1 (omega (arith, ok.lines.0))
  exported_readable Fixed =
      before _ _ (key_readable t.key.target t.key.flags ok.key)
      (before {most = 12} _ _ (home_readable t.home ok.home) (before {most = 6} _ _ (system_readable t.system ok.system) (none_left 0) (omega arith)) (omega arith)) (omega arith)
  exported_readable QuickTexts =
      let es : List Entry = entries 0 t.quick in
      let e : length (take 63 es) + length (drop 63 es) ≡ length es = omega (arith, length-append (take 63 es) (drop 63 es), ap length (take-append-drop 63 es)) in
      let n : length es ≤ 64 = omega (arith, entries_few 0 t.quick, ok.quick.0) in
      before _ _ (quick_replace_readable (take 63 es) (omega (arith, length-take 63 es)) (all_take QuickEntry 63 es quick_entries))
      (of_each 53 (map quick_add (drop 63 es)) (all_map QuickEntry (Readable 53) quick_add quick_add_readable (drop 63 es)
      (all_right QuickEntry (take 63 es) (drop 63 es) (subst⁻¹ (All QuickEntry) (take-append-drop 63 es) quick_entries))))
      (omega (arith, length-map (drop 63 es) quick_add, length-take 63 es, length-drop 63 es))
  exported_readable Channels =
      before _ _ (channels_readable t.channels (omega (arith, x.channels, ok.channels.0)) ok.channels.1) (none_left 0) (omega (arith, ok.channels.0))
  exported_readable StatusTexts =
      let n : length (entries 32 t.status) ≤ 96 = omega (arith, entries_few 32 t.status, ok.status.0) in
      before _ _ (status_readable (entries 32 t.status) (omega arith) status_entries) (none_left 0) (omega arith)
  exported_readable Groups =
      slots_readable (member_setting OfGroups) GroupOk 42 (member_readable OfGroups) t.groups ok.groups (omega arith)
  exported_readable Individuals =
      slots_readable (member_setting OfIndividuals) IndividualOk 42 (member_readable OfIndividuals) t.individuals ok.individuals (omega arith)
  exported_readable GroupContacts =
      cleared_readable GroupOk (contact_add OfGroups) 43 (contact_readable OfGroups) _ (clearing_readable OfGroups) t.group_contacts ok.group_contacts.1
      (omega (arith, ok.group_contacts.0))
  exported_readable IndividualContacts =
      cleared_readable IndividualOk (contact_add OfIndividuals) 42 (contact_readable OfIndividuals) _ (clearing_readable OfIndividuals) t.individual_contacts ok.individual_contacts.1
      (omega (arith, ok.individual_contacts.0))
  exported_readable LineSlots = slots_readable line_slot_setting LineOk 49 line_slot_readable t.line_slots ok.line_slots (omega arith)

  -- COUNTED: "1 to 255" settings
  pub exported_count : (p : Part) → (1 ≤ length (exported p t)) × (length (exported p t) ≤ 255)
  exported_count Lines = omega (arith, x.counted, ok.lines.0, length-map t.lines line_add)
  exported_count Fixed = omega arith
  exported_count QuickTexts =
      omega (arith, length-map (drop 63 (entries 0 t.quick)) quick_add, length-drop 63 (entries 0 t.quick), entries_few 0 t.quick, ok.quick.0)
  exported_count Channels = omega arith
  exported_count StatusTexts = omega arith
  exported_count Groups = omega (arith, slots_length (member_setting OfGroups) 0 t.groups, ok.groups.0)
  exported_count Individuals = omega (arith, slots_length (member_setting OfIndividuals) 0 t.individuals, ok.individuals.0)
  exported_count GroupContacts = omega (arith, ok.group_contacts.0, length-map t.group_contacts (contact_add OfGroups))
  exported_count IndividualContacts = omega (arith, ok.individual_contacts.0, length-map t.individual_contacts (contact_add OfIndividuals))
  exported_count LineSlots = omega (arith, slots_length line_slot_setting 0 t.line_slots, ok.line_slots.0)
