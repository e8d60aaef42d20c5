-- Requests whose settings share no table: document 02, A13.
use Rattle.std.specs.Prelude.{◌≡◌, ◌⊎◌, Bool, true, false, List}
use Rattle.writing.specs.declared.Kind.{Kind}
use Rattle.writing.specs.declared.Kind.TheVariants.{GroupContacts, IndividualContacts, Lines, Key, QuickTexts, Home, Channels, System, StatusTexts, Group, Individual, LineSlot, Last}
use Rattle.writing.specs.Settings.{Setting}
use Rattle.tables.specs.declared.limits.Limits.{Limits}
use Rattle.tables.specs.declared.limits.Texts.TheVariants.{Placed}
use Rattle.tables.specs.Owns.{touches}

-- "whose settings share no table": each type of setting has a table of its own, so CB, CD and CF have three
abbrev pub Apart : List Setting → List Setting → Type 0
Apart a b = (k : Kind) → touches a k ≡ true → touches b k ≡ false

-- "requests without FF"
abbrev pub WithoutLast : List Setting → Type 0
WithoutLast l = touches l Last ≡ false

-- "tables without texts": the emergency key, the home numbers, the channels, the system code, and the kept hash
abbrev pub textless : Kind → Bool
textless GroupContacts = false
textless IndividualContacts = false
textless Lines = false
textless Key = true
textless QuickTexts = false
textless Home = true
textless Channels = true
textless System = true
textless StatusTexts = false
textless Group = false
textless Individual = false
textless LineSlot = false
textless Last = true

-- settings of such tables alone
abbrev pub Textless : List Setting → Type 0
Textless l = (k : Kind) → touches l k ≡ true → textless k ≡ true

-- why the sum of all texts does not tell the orders of two lists apart: one of them has no texts, or each text has a place of its own and no sum binds
abbrev pub SumAside : Limits → List Setting → List Setting → Type 0
SumAside lim a b = Textless a ⊎ (Textless b ⊎ (lim.texts ≡ Placed))
