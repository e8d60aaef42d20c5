-- Quick and status texts are written as their settings. Assumes nothing.
use Rattle.lists.proofs.Kit.{ℕ, suc, ◌+◌, ◌*◌, ◌≤◌, ◌<◌, ◌≡◌, refl, ap, ap₂, ◌∙◌, List, [], ◌∷◌, ◌++◌, map, Option, none, some, arith, length}
use Rattle.lists.specs.Every.{All}
use Rattle.lists.proofs.Every.{all_append, all_turn}
use Rattle.slots.specs.Slots.{flat, Present, Placed}
use Rattle.writing.specs.declared.Operation.{Operation}
use Rattle.writing.specs.declared.Operation.TheVariants.{Replace}
use Rattle.writing.specs.Canonical.{plain, FitsField}
use Rattle.writing.specs.Fields.{Field, val, res, each}
use Rattle.writing.specs.Settings.{Text, Entry, quick_texts, status_texts, unicode16}
use Rattle.writing.specs.Writing.{op, op_code, text, quick_text, status_text, body}
use Rattle.writing.proofs.CanonicalLaws.{plain_append}
use Rattle.writing.proofs.Whole.{Whole, each_whole, entry_whole, text_whole}
use Rattle.tables.specs.Allowed.{QuickOk, StatusOk}
use Rattle.tables.specs.Layout.{quick_bytes, quick_width, status_bytes, status_width}
use Rattle.tables.specs.Limits.{quick_places, status_places}
use Rattle.tables.proofs.EntryCodes.{quick_shown, status_shown}
use Rattle.tables.proofs.TextLaws.{Unit16}
use Rattle.export_write.specs.EntryWriters.{entry_bytes, led, Shown}
use Rattle.export_write.specs.EntrySettings.{entries}
use Rattle.export_write.proofs.PlainLaws.{plain_byte}
use Rattle.export_write.proofs.TextWriting.{text_fits}

-- ---- entries

-- an entry whose index is below b, with a text of units
abbrev pub EntryOk : ℕ → Entry → Type 0
EntryOk b e = (e.index < b) × All Unit16 e.text

-- those of a table
pub entries_ok : (P : Text → Type 0) → ((us : Text) → P us → All Unit16 us) → (b i : ℕ) (os : List (Option Text)) → All (Present P) os → i + length os ≤ b → All (EntryOk b) (entries i os)
entries_ok P u b i [] p h = tt
entries_ok P u b i (none ∷ os) p h = entries_ok P u b (suc i) os p.1 (omega arith)
entries_ok P u b i (some us ∷ os) p h = ((omega arith, u us p.0), entries_ok P u b (suc i) os p.1 (omega arith))

-- they are no more than the table has places
pub entries_few : (i : ℕ) (os : List (Option Text)) → length (entries i os) ≤ length os
entries_few i [] = omega arith
entries_few i (none ∷ os) = omega (arith, entries_few (suc i) os)
entries_few i (some us ∷ os) = omega (arith, entries_few (suc i) os)

-- entries whose fields are a byte of the index and the text
module _ (f : Entry → List Field) (b : ℕ) (whole : (e : Entry) → Whole (f e)) (fits : (e : Entry) → EntryOk b e → All FitsField (f e)) (is : (e : Entry) → EntryOk b e → plain (f e) ≡ entry_bytes e) where
  pub each_fits : (es : List Entry) → All (EntryOk b) es → All FitsField (each f es)
  each_fits [] h = tt
  each_fits (e ∷ es) h = all_append FitsField (f e) (each f es) (fits e h.0) (each_fits es h.1)

  pub each_plain : (es : List Entry) → All (EntryOk b) es → plain (each f es) ≡ flat (map entry_bytes es)
  each_plain [] h = refl
  each_plain (e ∷ es) h =
      let (n, p) = whole e in
      let (m, q) = each_whole f whole es in
      plain_append (f e) (each f es) n m p q (each_fits es h.1) ∙ ap₂ (λ (x y : List ℕ). x ++ y) (is e h.0) (each_plain es h.1)

-- ---- quick texts

quick_whole : (e : Entry) → Whole (quick_text unicode16 e)
quick_whole e = entry_whole unicode16 (res 2 ∷ val 6 e.index ∷ []) refl e.text

quick_entry_fits : (e : Entry) → EntryOk 64 e → All FitsField (quick_text unicode16 e)
quick_entry_fits e h = (tt, (h.0, text_fits e.text h.1))

quick_entry : (e : Entry) → EntryOk 64 e → plain (quick_text unicode16 e) ≡ entry_bytes e
quick_entry e h =
    plain_byte e.index (res 2 ∷ val 6 e.index ∷ []) (text unicode16 e.text) refl (omega arith) (omega (arith, h.0)) (text_whole unicode16 e.text) (text_fits e.text h.1)

module _ (o : Operation) (es : List Entry) (h : All (EntryOk 64) es) (few : length es < 64) where
  -- a setting's values fit
  pub quick_fits : op_code o < 4 → All FitsField (body unicode16 (quick_texts o es))
  quick_fits l = (l, (few, each_fits (quick_text unicode16) 64 quick_whole quick_entry_fits quick_entry es h))

  -- the operation and the count are a byte
  pub quick_plain : op_code o < 4 → plain (body unicode16 (quick_texts o es)) ≡ (op_code o * 64 + length es) ∷ flat (map entry_bytes es)
  quick_plain l =
      plain_byte (op_code o * 64 + length es) (op o ∷ val 6 (length es) ∷ []) (each (quick_text unicode16) es) refl (omega arith) (omega arith)
      (each_whole (quick_text unicode16) quick_whole es) (each_fits (quick_text unicode16) 64 quick_whole quick_entry_fits quick_entry es h)
      ∙ ap (λ (x : List ℕ). (op_code o * 64 + length es) ∷ x) (each_plain (quick_text unicode16) 64 quick_whole quick_entry_fits quick_entry es h)

-- a quick text as a text's slot shows it
quick_present : (o : Option Text) → Present QuickOk o → Present (Shown [] 23) o
quick_present none p = tt
quick_present (some us) p = (p.text, quick_shown us p)

pub quick_placed : (os : List (Option Text)) (s : List ℕ) → Placed QuickOk quick_width quick_bytes quick_places os s → Placed (Shown [] 23) quick_width (led [] 23) quick_places os s
quick_placed os s p = record { many = p.many; each = all_turn (Present QuickOk) (Present (Shown [] 23)) quick_present os p.each; bytes = p.bytes }

-- ---- status texts

status_whole : (e : Entry) → Whole (status_text unicode16 e)
status_whole e = entry_whole unicode16 (val 8 e.index ∷ []) refl e.text

status_entry_fits : (e : Entry) → EntryOk 128 e → All FitsField (status_text unicode16 e)
status_entry_fits e h = (omega (arith, h.0), text_fits e.text h.1)

status_entry : (e : Entry) → EntryOk 128 e → plain (status_text unicode16 e) ≡ entry_bytes e
status_entry e h =
    plain_byte e.index (val 8 e.index ∷ []) (text unicode16 e.text) refl (omega arith) (omega (arith, h.0)) (text_whole unicode16 e.text) (text_fits e.text h.1)

module _ (es : List Entry) (h : All (EntryOk 128) es) (few : length es < 256) where
  pub status_fits : All FitsField (body unicode16 (status_texts Replace es))
  status_fits = (omega arith, (tt, (few, each_fits (status_text unicode16) 128 status_whole status_entry_fits status_entry es h)))

  pub status_plain : plain (body unicode16 (status_texts Replace es)) ≡ 192 ∷ length es ∷ flat (map entry_bytes es)
  status_plain =
      let r : List Field = each (status_text unicode16) es in
      let (n, e) = each_whole (status_text unicode16) status_whole es in
      let f : All FitsField r = each_fits (status_text unicode16) 128 status_whole status_entry_fits status_entry es h in
      plain_byte 192 (op Replace ∷ res 6 ∷ []) (val 8 (length es) ∷ r) refl refl (omega arith) (1 + n, omega arith) (few, f)
      ∙ ap (λ (x : List ℕ). 192 ∷ x) (plain_byte (length es) (val 8 (length es) ∷ []) r refl (omega arith) few (n, e) f
      ∙ ap (λ (x : List ℕ). length es ∷ x) (each_plain (status_text unicode16) 128 status_whole status_entry_fits status_entry es h))

-- a status text as a text's slot shows it
status_present : (o : Option Text) → Present StatusOk o → Present (Shown (1 ∷ []) 16) o
status_present none p = tt
status_present (some us) p = (p, status_shown us p)

pub status_placed : (os : List (Option Text)) (s : List ℕ) → Placed StatusOk status_width status_bytes status_places os s → Placed (Shown (1 ∷ []) 16) status_width (led (1 ∷ []) 16) status_places os s
status_placed os s p = record { many = p.many; each = all_turn (Present StatusOk) (Present (Shown (1 ∷ []) 16)) status_present os p.each; bytes = p.bytes }
