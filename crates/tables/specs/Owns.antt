-- The tables by kind of setting: which is whose, and tables taken from one set or from the other.
use Rattle.std.specs.Prelude.{◌≡◌, Bool, true, false, cond, ◌||◌, List, [], ◌∷◌, ℕ, eqb}
use Rattle.std.proofs.Math.Option.{Option}
use Rattle.writing.specs.declared.Kind.{Kind}
use Rattle.writing.specs.declared.Kind.TheVariants.{GroupContacts, IndividualContacts, Lines, Key, QuickTexts, Home, Channels, System, StatusTexts, Group, Individual, LineSlot, Last}
use Rattle.writing.specs.declared.HomeNumbers.{HomeNumbers}
use Rattle.writing.specs.declared.SystemCode.{SystemCode}
use Rattle.writing.specs.Settings.{Text, Hash, Setting, kind}
use Rattle.writing.specs.Writing.{type_byte}
use Rattle.tables.specs.Tables as T
use Rattle.tables.specs.Tables.{Line, GroupMember, IndividualMember, Tables}

-- what a table of each kind is
abbrev pub Own : Kind → Type 0
Own GroupContacts = List GroupMember
Own IndividualContacts = List IndividualMember
Own Lines = List Line
Own Key = T.Key
Own QuickTexts = List (Option Text)
Own Home = HomeNumbers
Own Channels = List ℕ
Own System = SystemCode
Own StatusTexts = List (Option Text)
Own Group = List (Option GroupMember)
Own Individual = List (Option IndividualMember)
Own LineSlot = List (Option Line)
Own Last = Hash

-- the table of a kind
abbrev pub own : (k : Kind) → Tables → Own k
own GroupContacts t = t.group_contacts
own IndividualContacts t = t.individual_contacts
own Lines t = t.lines
own Key t = t.key
own QuickTexts t = t.quick
own Home t = t.home
own Channels t = t.channels
own System t = t.system
own StatusTexts t = t.status
own Group t = t.groups
own Individual t = t.individuals
own LineSlot t = t.line_slots
own Last t = t.hash

-- the tables that have these
abbrev pub tables_of : Own Last → Own Key → Own Home → Own System → Own QuickTexts → Own StatusTexts → Own Group → Own Individual
    → Own LineSlot → Own GroupContacts → Own IndividualContacts → Own Channels → Own Lines → Tables
tables_of hash key home system quick status groups individuals line_slots group_contacts individual_contacts channels lines = record {
  hash = hash;
  key = key;
  home = home;
  system = system;
  quick = quick;
  status = status;
  groups = groups;
  individuals = individuals;
  line_slots = line_slots;
  group_contacts = group_contacts;
  individual_contacts = individual_contacts;
  channels = channels;
  lines = lines;
}

-- t, with x for its table of this kind
abbrev pub put_own : (k : Kind) → Tables → Own k → Tables
put_own Last t x = tables_of x t.key t.home t.system t.quick t.status t.groups t.individuals t.line_slots t.group_contacts t.individual_contacts t.channels t.lines
put_own Key t x = tables_of t.hash x t.home t.system t.quick t.status t.groups t.individuals t.line_slots t.group_contacts t.individual_contacts t.channels t.lines
put_own Home t x = tables_of t.hash t.key x t.system t.quick t.status t.groups t.individuals t.line_slots t.group_contacts t.individual_contacts t.channels t.lines
put_own System t x = tables_of t.hash t.key t.home x t.quick t.status t.groups t.individuals t.line_slots t.group_contacts t.individual_contacts t.channels t.lines
put_own QuickTexts t x = tables_of t.hash t.key t.home t.system x t.status t.groups t.individuals t.line_slots t.group_contacts t.individual_contacts t.channels t.lines
put_own StatusTexts t x = tables_of t.hash t.key t.home t.system t.quick x t.groups t.individuals t.line_slots t.group_contacts t.individual_contacts t.channels t.lines
put_own Group t x = tables_of t.hash t.key t.home t.system t.quick t.status x t.individuals t.line_slots t.group_contacts t.individual_contacts t.channels t.lines
put_own Individual t x = tables_of t.hash t.key t.home t.system t.quick t.status t.groups x t.line_slots t.group_contacts t.individual_contacts t.channels t.lines
put_own LineSlot t x = tables_of t.hash t.key t.home t.system t.quick t.status t.groups t.individuals x t.group_contacts t.individual_contacts t.channels t.lines
put_own GroupContacts t x = tables_of t.hash t.key t.home t.system t.quick t.status t.groups t.individuals t.line_slots x t.individual_contacts t.channels t.lines
put_own IndividualContacts t x = tables_of t.hash t.key t.home t.system t.quick t.status t.groups t.individuals t.line_slots t.group_contacts x t.channels t.lines
put_own Channels t x = tables_of t.hash t.key t.home t.system t.quick t.status t.groups t.individuals t.line_slots t.group_contacts t.individual_contacts x t.lines
put_own Lines t x = tables_of t.hash t.key t.home t.system t.quick t.status t.groups t.individuals t.line_slots t.group_contacts t.individual_contacts t.channels x

-- t, with the tables of the kinds that p says yes of as u has them
abbrev pub mix : (Kind → Bool) → Tables → Tables → Tables
mix p t u = record {
  hash = cond (p Last) u.hash t.hash;
  key = cond (p Key) u.key t.key;
  home = cond (p Home) u.home t.home;
  system = cond (p System) u.system t.system;
  quick = cond (p QuickTexts) u.quick t.quick;
  status = cond (p StatusTexts) u.status t.status;
  groups = cond (p Group) u.groups t.groups;
  individuals = cond (p Individual) u.individuals t.individuals;
  line_slots = cond (p LineSlot) u.line_slots t.line_slots;
  group_contacts = cond (p GroupContacts) u.group_contacts t.group_contacts;
  individual_contacts = cond (p IndividualContacts) u.individual_contacts t.individual_contacts;
  channels = cond (p Channels) u.channels t.channels;
  lines = cond (p Lines) u.lines t.lines;
}

-- the kind k alone
abbrev pub only : Kind → Kind → Bool
only k j = eqb (type_byte k) (type_byte j)

-- whether settings touch a table
abbrev pub touches : List Setting → Kind → Bool
touches [] k = false
touches (s ∷ l) k = only (kind s) k || touches l k

-- two sets have the same tables of the kinds that p says yes of
abbrev pub Agree : (Kind → Bool) → Tables → Tables → Type 0
Agree p t u = (k : Kind) → p k ≡ true → own k t ≡ own k u
