-- What a query is answered with: docs/RULES.md, "answered type by type in the order asked".
use Rattle.std.specs.Prelude.{ℕ, suc, ◌%◌, cond, List, [], ◌∷◌, ◌++◌, map, eqb}
use Rattle.std.proofs.Math.Option.{Option, none, some}
use Rattle.writing.specs.Settings.{Text, Entry, Hash}
use Rattle.tables.specs.Tables.{Tables}
use Rattle.export_write.specs.EntrySettings.{entries}
use Rattle.reports.specs.declared.Asked.{Asked}
use Rattle.reports.specs.declared.Asked.TheVariants.{Groups, Individuals, Lines, Key, QuickTexts, Home, Channels, System, StatusTexts, Hash as AHash}
use Rattle.reports.specs.Items.{Item, group, individual, line, key, quick, home, channel, system, status, hash, unknown}
use Rattle.reports.specs.Types.{asked_by}

-- the entries in order, with their positions from `from` on: "position mod 16", or what else the index has room for
abbrev pub numbered : {A : Type 0} → ℕ → (ℕ → A → Item) → ℕ → List A → List Item
numbered room f from [] = []
numbered room f from (a ∷ l) = f (from % room) a ∷ numbered room f (suc from) l

abbrev pub quick_item : Entry → Item
quick_item e = quick e.index e.text

abbrev pub status_item : ℕ → Entry → Item
status_item p e = status e.index p e.text

-- "no hash kept: BF 00"
abbrev pub kept_hash : Hash → Option Hash
kept_hash h = cond (eqb h.code 0) none (some h)

-- the parameters that answer a type
abbrev pub items_of : Tables → Asked → List Item
items_of t Groups = numbered 16 group 0 t.group_contacts
items_of t Individuals = numbered 16 individual 0 t.individual_contacts
items_of t Lines = numbered 16 line 0 t.lines
items_of t Key = key t.key ∷ []
items_of t QuickTexts = map quick_item (entries 0 t.quick)
items_of t Home = home t.home ∷ []
items_of t Channels = numbered 4096 (λ p n. channel n p) 0 t.channels
items_of t System = system t.system ∷ []
items_of t StatusTexts = numbered 256 status_item 0 (entries 32 t.status)
items_of t AHash = hash (kept_hash t.hash) ∷ []

-- "An unknown type is answered by its error alone and ends that report"
abbrev pub then_more : Tables → ℕ → Option Asked → List Item → List Item
then_more t b none more = unknown b ∷ []
then_more t b (some a) more = items_of t a ++ more

-- "type by type in the order asked"
abbrev pub asked : Tables → List ℕ → List Item
asked t [] = []
asked t (b ∷ l) = then_more t b (asked_by b) (asked t l)
