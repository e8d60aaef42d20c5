-- Parts by their number, and their settings in the buffer. No promise cites these.
use Rattle.std.specs.Prelude.{ℕ, ◌+◌, ◌-◌, ◌<◌, ◌≡◌, List, ◌∷◌, map, length, get_or, Result, MatchResult}
use Rattle.std.proofs.Math.Option.{Option, none, some}
use Rattle.writing.specs.Canonical.{canonical_all}
use Rattle.writing.specs.Settings.{Setting, unicode16}
use Rattle.tables.specs.declared.limits.Limits.{Limits}
use Rattle.tables.specs.Layout.{count_size, key_at, quick_at, status_at, groups_at, individuals_at, line_slots_at, group_contacts_at, individual_contacts_at, channels_at}
use Rattle.tables.specs.Store.{Works}
use Rattle.export.specs.declared.parts.NoExport.{NoExport}
use Rattle.export.specs.declared.parts.NoExport.TheVariants.{NoPart}
use Rattle.export.specs.declared.parts.Part.{Part}
use Rattle.export.specs.declared.parts.Part.TheVariants.{Lines, Fixed, QuickTexts, Channels, StatusTexts, Groups, Individuals, GroupContacts, IndividualContacts, LineSlots}
use Rattle.tables.specs.declared.members.Members.TheVariants.{OfGroups, OfIndividuals}
use Rattle.export_write.specs.declared.writers.Settings.{Settings}
use Rattle.export_write.specs.ChannelWriters.{WritesChannels}
use Rattle.export_write.specs.ContactWriters.{WritesContacts}
use Rattle.export_write.specs.EntryWriters.{WritesQuicks, WritesStatuses}
use Rattle.export_write.specs.FixedWriters.{WritesFixed}
use Rattle.export_write.specs.LineWriters.{WritesLines, WritesLineSlots}
use Rattle.export_write.specs.MemberWriters.{WritesMembers}
use Rattle.export_write.specs.Writers.{Wrote, WritesAll}
use Rattle.export.specs.Exported.{ten, part_number, exported, request_bytes}

-- the part that the list of parts has at this number, if there is one
abbrev pub part_at : ℕ → Option Part
part_at n = get_or (none ∷ map some ten) n none

-- it, which is the part with this number, or that there is none
abbrev pub Numbered : ℕ → Result Part NoExport → Type 0
Numbered n r =
    MatchResult r (λ p. (part_at n ≡ some p) × (part_number p ≡ n)) (λ e. (e ≡ NoPart) × (part_at n ≡ none) × ((p : Part) → part_number p ≡ n → ⊥))

-- where a part's slots stand in a working copy whose lines' region and whose order of the lines start here, behind a list's count: from this byte on
abbrev pub part_from : (lines order : ℕ) → Part → ℕ
part_from lines order Lines = lines + count_size
part_from lines order Fixed = key_at
part_from lines order QuickTexts = quick_at
part_from lines order Channels = channels_at + count_size
part_from lines order StatusTexts = status_at
part_from lines order Groups = groups_at
part_from lines order Individuals = individuals_at
part_from lines order GroupContacts = group_contacts_at + count_size
part_from lines order IndividualContacts = individual_contacts_at + count_size
part_from lines order LineSlots = line_slots_at

-- up to this one
abbrev pub part_to : (lines order : ℕ) → Part → ℕ
part_to lines order Lines = order
part_to lines order Fixed = quick_at
part_to lines order QuickTexts = status_at
part_to lines order Channels = lines
part_to lines order StatusTexts = groups_at
part_to lines order Groups = individuals_at
part_to lines order Individuals = line_slots_at
part_to lines order GroupContacts = individual_contacts_at
part_to lines order IndividualContacts = channels_at
part_to lines order LineSlots = group_contacts_at

-- the settings of what a part's bytes hold were written behind a request's head
abbrev pub WritesPart : Part → (held before after : List ℕ) → Settings → Type 0
WritesPart Lines = WritesLines
WritesPart Fixed = WritesFixed
WritesPart QuickTexts = WritesQuicks
WritesPart Channels = WritesChannels
WritesPart StatusTexts = WritesStatuses
WritesPart Groups = WritesMembers OfGroups
WritesPart Individuals = WritesMembers OfIndividuals
WritesPart GroupContacts = WritesContacts OfGroups
WritesPart IndividualContacts = WritesContacts OfIndividuals
WritesPart LineSlots = WritesLineSlots

-- the settings of a part of a working copy were written behind a request's head, and the request fits its length field and the buffer
pub record PartWritten (lim : Limits) (part : Part) (work before after : List ℕ) (r : Settings) : Type 0 where
  pub small : r.end < 65540
  pub writes : WritesAll (λ t. Works lim t work) (exported part) 8 (lim.message - 8) before after r

-- the settings that were written up to `end` were given a request's head
pub record Headed (count end : ℕ) (before after : List ℕ) (r : ℕ) : Type 0 where
  pub same : r ≡ end
  pub request : (ss : List Setting) (was : List ℕ) → length ss ≡ count
      → Wrote (canonical_all unicode16 ss) 8 was before end → Wrote (request_bytes ss) 0 was after r
