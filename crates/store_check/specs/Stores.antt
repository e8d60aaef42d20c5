-- The regions of a store in both forms, one after another, and where they start: inner steps, no promise cites these.
use Rattle.std.specs.Prelude.{ℕ, ◌+◌, ◌*◌, ◌<◌, ◌≡◌, List, [], ◌∷◌, ◌++◌}
use Rattle.slots.specs.Slots.{places}
use Rattle.store_check.specs.declared.checks_tables.Table.{Table}
use Rattle.store_check.specs.declared.checks_tables.Table.TheVariants.{QuickTexts, StatusTexts, Members as Of, Lines}
use Rattle.store_check.specs.declared.forms.Form.{Form}
use Rattle.store_check.specs.declared.forms.Starts.{Starts}
use Rattle.tables.specs.declared.limits.Limits.{Limits}
use Rattle.tables.specs.declared.members.Members.{Members}
use Rattle.tables.specs.declared.members.Members.TheVariants.{OfGroups, OfIndividuals}
use Rattle.tables.specs.Allowed.{HashOk, HomeOk, SystemOk, PlacesOk}
use Rattle.tables.specs.Layout.{counted, hash_bytes, key_bytes, home_bytes, system_bytes, hash_size, key_size, home_size, system_size, quick_at, count_size, channels_size}
use Rattle.tables.specs.Limits.{quick_places, status_places, slot_places, contact_places}
use Rattle.shared_texts.specs.Regions.{Region, plain}
use Rattle.shared_texts.specs.Shared.{channels_region}
use Rattle.store_check.specs.Checks.{OkIn, bytes_in, width_in, KeyOk, ContactsOk, named_in, LinesIs, lines_in}

-- ---- how many bytes they have

abbrev pub places_size : Form → Table → ℕ → ℕ
places_size f t n = n * width_in f t

abbrev pub contacts_size_in : Form → Members → ℕ
contacts_size_in f w = count_size + contact_places * width_in f (Of w)

abbrev pub lines_size_in : Form → ℕ → ℕ
lines_size_in f n = count_size + n * width_in f Lines + n

-- ---- the regions

-- an indexed table
abbrev pub indexed : Form → Table → ℕ → Region
indexed f t n = plain (PlacesOk (OkIn f t) n) (places_size f t n) (places (width_in f t) (bytes_in f t))

abbrev pub contacts_region : Form → Members → Region
contacts_region f w = plain (ContactsOk f w contact_places) (contacts_size_in f w) (counted (width_in f (Of w)) (named_in f w) contact_places)

abbrev pub lines_region_in : Form → ℕ → Region
lines_region_in f n = plain (LinesIs f n) (lines_size_in f n) (lines_in f n)

-- hash, key, home numbers and system code
abbrev pub fixed_regions : List Region
fixed_regions = plain HashOk hash_size hash_bytes ∷ plain KeyOk key_size key_bytes ∷ plain HomeOk home_size home_bytes ∷ plain SystemOk system_size system_bytes ∷ []

-- quick texts, status texts, groups, individuals and line slots
abbrev pub indexed_regions : Form → List Region
indexed_regions f =
    indexed f QuickTexts quick_places ∷ indexed f StatusTexts status_places ∷ indexed f (Of OfGroups) slot_places ∷ indexed f (Of OfIndividuals) slot_places
    ∷ indexed f Lines slot_places ∷ []

-- the lists of contacts
abbrev pub contact_regions : Form → List Region
contact_regions f = contacts_region f OfGroups ∷ contacts_region f OfIndividuals ∷ []

-- all of them
abbrev pub regions_in : Form → Limits → List Region
regions_in f lim = fixed_regions ++ (indexed_regions f ++ (contact_regions f ++ (channels_region lim.channels ∷ lines_region_in f lim.lines ∷ [])))

-- ---- where they start

abbrev pub status_start : Form → ℕ
status_start f = quick_at + places_size f QuickTexts quick_places

abbrev pub groups_start : Form → ℕ
groups_start f = status_start f + places_size f StatusTexts status_places

abbrev pub individuals_start : Form → ℕ
individuals_start f = groups_start f + places_size f (Of OfGroups) slot_places

abbrev pub line_slots_start : Form → ℕ
line_slots_start f = individuals_start f + places_size f (Of OfIndividuals) slot_places

abbrev pub group_contacts_start : Form → ℕ
group_contacts_start f = line_slots_start f + places_size f Lines slot_places

abbrev pub individual_contacts_start : Form → ℕ
individual_contacts_start f = group_contacts_start f + contacts_size_in f OfGroups

abbrev pub channels_start : Form → ℕ
channels_start f = individual_contacts_start f + contacts_size_in f OfIndividuals

abbrev pub lines_start : Form → Limits → ℕ
lines_start f lim = channels_start f + channels_size lim

-- where they end
abbrev pub regions_end : Form → Limits → ℕ
regions_end f lim = lines_start f lim + lines_size_in f lim.lines

-- what the code says of them
pub record StartsIn (f : Form) (r : Starts) : Type 0 where
  pub status : r.status ≡ status_start f
  pub groups : r.groups ≡ groups_start f
  pub individuals : r.individuals ≡ individuals_start f
  pub line_slots : r.line_slots ≡ line_slots_start f
  pub group_contacts : r.group_contacts ≡ group_contacts_start f
  pub individual_contacts : r.individual_contacts ≡ individual_contacts_start f
  pub channels : r.channels ≡ channels_start f
  pub small : r.channels < 65536
