-- A parameter by the type that it answers and its contents. No promise cites these.
use Rattle.std.specs.Prelude.{ℕ}
use Rattle.std.proofs.Math.Option.{Option}
use Rattle.writing.specs.declared.HomeNumbers.{HomeNumbers}
use Rattle.writing.specs.declared.SystemCode.{SystemCode}
use Rattle.writing.specs.Settings.{Text, Hash}
use Rattle.tables.specs.Tables.{GroupMember, IndividualMember, Line, Key}
use Rattle.reports.specs.declared.Asked.{Asked}
use Rattle.reports.specs.declared.Asked.TheVariants.{Groups, Individuals, Lines, Key as AKey, QuickTexts, Home, Channels, System, StatusTexts, Hash as AHash}
use Rattle.reports.specs.Items.{Item, group, individual, line, key, quick, home, channel, system, status, hash}

-- what a parameter of this type holds
abbrev pub Contents : Asked → Type 0
Contents Groups = ℕ × GroupMember
Contents Individuals = ℕ × IndividualMember
Contents Lines = ℕ × Line
Contents AKey = Key
Contents QuickTexts = ℕ × Text
Contents Home = HomeNumbers
Contents Channels = ℕ × ℕ
Contents System = SystemCode
Contents StatusTexts = ℕ × ℕ × Text
Contents AHash = Option Hash

-- the parameter that holds it
abbrev pub make : (k : Asked) → Contents k → Item
make Groups x = group x.0 x.1
make Individuals x = individual x.0 x.1
make Lines x = line x.0 x.1
make AKey x = key x
make QuickTexts x = quick x.0 x.1
make Home x = home x
make Channels x = channel x.0 x.1
make System x = system x
make StatusTexts x = status x.0 x.1 x.2
make AHash x = hash x
