-- Line slots: what the function that sets one has to show. Assumes nothing.
use Rattle.lists.proofs.Kit.{ℕ, ◌+◌, ◌*◌, ◌≤◌, ap, false, List, ◌++◌, arith, length}
use Rattle.writing.specs.declared.LineFlags.{LineFlags}
use Rattle.writing.specs.declared.Operation.{Operation}
use Rattle.writing.specs.Ranges.{text_limits}
use Rattle.settings.specs.declared.settings.LinePlace.{LinePlace}
use Rattle.tables.specs.Allowed.{LineOk}
use Rattle.tables.specs.Apply.{line_of}
use Rattle.tables.specs.Layout.{text_bytes, line_bytes, line_width}
use Rattle.tables.specs.Limits.{slot_places}
use Rattle.tables.specs.LineHeads.{LineHead}
use Rattle.tables.proofs.EntryCodes.{line_code}
use Rattle.store_places.specs.Changes.{PlaceSet, LineSlotApplied}
use Rattle.store_places.proofs.OverwriteLaws.{Made, place_overwritten, after_turn}

-- a place was set, with the head of a line
pub line_slot_set : (m : List ℕ) (o : Operation) (f : LineFlags) (p : LinePlace) (s t head : List ℕ) → LineHead m f p.contact.number head
    → (p.index * line_width + line_width ≤ length s → PlaceSet false m o p.contact.text head line_width p.index s t) → LineSlotApplied m o f p s t
line_slot_set m o f p s t head made changed os e is low ok h =
    place_overwritten LineOk line_width line_bytes line_code.long slot_places os s h p.index low o (line_of f e) head text_limits.short e.text is.end is.text
    (omega (arith, made.long))
    (after_turn LineOk (Made LineOk line_bytes head text_limits.short e.text) (line_of f e)
    (λ l. (l, l.text.short, ap (λ (b : List ℕ). b ++ text_bytes text_limits.short e.text) (made.bytes l.priority e.number is.middle is.number))) o ok) t changed
