-- Counts and sizes go on behind what was read, by kind. Assumes nothing.
use Rattle.lists.proofs.Kit.{ℕ, ◌≡◌, refl, List, [], ◌++◌, eqb}
use Rattle.writing.specs.declared.Kind.{Kind}
use Rattle.writing.specs.declared.Kind.TheVariants.{GroupContacts, IndividualContacts, Lines, Key, QuickTexts, Home, Channels, System, StatusTexts, Group, Individual, LineSlot, Last}
use Rattle.tables.specs.declared.limits.Limits.{Limits}
use Rattle.tables.specs.declared.members.Members.TheVariants.{OfGroups, OfIndividuals}
use Rattle.tables.specs.Apply.{and_then, same_key}
use Rattle.tables.specs.Limits.{contact_places}
use Rattle.tables.specs.MemberKinds.{contact_key}
use Rattle.tables.specs.Tables.{line_key}
use Rattle.events.specs.Events.{count_step, total_step}
use Rattle.events.specs.Places.{spots_total_step}
use Rattle.events.specs.Channels.{channel_count_step}
use Rattle.events.specs.Settings.{quick_place, quick_change, status_place, status_change, slot_place, slot_change, Does}
use Rattle.events.specs.Sums.{counted, text_bytes, size_on, size_read}
use Rattle.events.proofs.ReadingLaws.{on_append, while_append}

-- COUNTED-APPEND: how many entries there are after events and then others, or that there is no room
pub counted_append : (lim : Limits) (k : Kind) (read es more : List (Does k)) (c : ℕ) → counted lim k read (es ++ more) c ≡ and_then (counted lim k read es c) (counted lim k (read ++ es) more)
counted_append lim GroupContacts read es more c = while_append (count_step (contact_key OfGroups) eqb contact_places) read es more c
counted_append lim IndividualContacts read es more c = while_append (count_step (contact_key OfIndividuals) eqb contact_places) read es more c
counted_append lim Lines read es more c = while_append (count_step line_key same_key lim.lines) read es more c
counted_append lim Key read es more c = refl
counted_append lim QuickTexts read es more c = refl
counted_append lim Home read es more c = refl
counted_append lim Channels read es more c = while_append (channel_count_step lim.channels) read es more c
counted_append lim System read es more c = refl
counted_append lim StatusTexts read es more c = refl
counted_append lim Group read es more c = refl
counted_append lim Individual read es more c = refl
counted_append lim LineSlot read es more c = refl
counted_append lim Last read es more c = refl

-- SIZE-APPEND: and how many bytes the texts take
pub size_append : (k : Kind) (read es more : List (Does k)) (s : ℕ) → size_on k read (es ++ more) s ≡ size_on k (read ++ es) more (size_on k read es s)
size_append GroupContacts read es more s = on_append (total_step (contact_key OfGroups) eqb (λ g. text_bytes g.text)) read es more s
size_append IndividualContacts read es more s = on_append (total_step (contact_key OfIndividuals) eqb (λ i. text_bytes i.text)) read es more s
size_append Lines read es more s = on_append (total_step line_key same_key (λ l. text_bytes l.text)) read es more s
size_append Key read es more s = refl
size_append QuickTexts read es more s = on_append (spots_total_step quick_place quick_change text_bytes) read es more s
size_append Home read es more s = refl
size_append Channels read es more s = refl
size_append System read es more s = refl
size_append StatusTexts read es more s = on_append (spots_total_step status_place status_change text_bytes) read es more s
size_append Group read es more s = on_append (spots_total_step slot_place slot_change (λ g. text_bytes g.text)) read es more s
size_append Individual read es more s = on_append (spots_total_step slot_place slot_change (λ i. text_bytes i.text)) read es more s
size_append LineSlot read es more s = on_append (spots_total_step slot_place slot_change (λ l. text_bytes l.text)) read es more s
size_append Last read es more s = refl

-- from the first event on
pub read_append : (k : Kind) (es more : List (Does k)) → size_read k (es ++ more) ≡ size_on k es more (size_read k es)
read_append k es more = size_append k [] es more 0
