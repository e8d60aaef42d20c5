-- A setting by its kind and contents. Assumes nothing.
use Rattle.lists.proofs.Kit.{◌≡◌, refl, sym, ap, ◌∙◌, subst, List, ℕ}
use Rattle.plan.specs.declared.numbers.GroupAddress.{GroupAddress}
use Rattle.plan.specs.declared.numbers.IndividualAddress.{IndividualAddress}
use Rattle.writing.specs.declared.Kind.{Kind}
use Rattle.writing.specs.declared.Kind.TheVariants.{GroupContacts, IndividualContacts, Lines, Key, QuickTexts, Home, Channels, System, StatusTexts, Group, Individual, LineSlot, Last}
use Rattle.writing.specs.declared.Operation.{Operation}
use Rattle.writing.specs.declared.KeyTarget.{KeyTarget}
use Rattle.writing.specs.declared.LineFlags.{LineFlags}
use Rattle.writing.specs.declared.KeyFlags.{KeyFlags}
use Rattle.writing.specs.declared.HomeNumbers.{HomeNumbers}
use Rattle.writing.specs.declared.SystemCode.{SystemCode}
use Rattle.writing.specs.declared.GroupFlags.{GroupFlags}
use Rattle.writing.specs.declared.IndividualFlags.{IndividualFlags}
use Rattle.writing.specs.declared.LastFlags.{LastFlags}
use Rattle.writing.specs.Settings.{Number, Contact, Addressed, Entry, Slot, Hash, Setting, group_contacts, individual_contacts, lines, key, quick_texts, home, channels, system, status_texts, group, individual, line_slot, last, kind}

-- what a setting of this kind holds
abbrev pub Contents : Kind → Type 0
Contents GroupContacts = Operation × GroupFlags × List (Addressed GroupAddress)
Contents IndividualContacts = Operation × IndividualFlags × List (Addressed IndividualAddress)
Contents Lines = Operation × LineFlags × List Contact
Contents Key = KeyTarget × KeyFlags
Contents QuickTexts = Operation × List Entry
Contents Home = HomeNumbers
Contents Channels = Operation × List ℕ
Contents System = SystemCode
Contents StatusTexts = Operation × List Entry
Contents Group = Operation × GroupFlags × Slot GroupAddress
Contents Individual = Operation × IndividualFlags × Slot IndividualAddress
Contents LineSlot = Operation × LineFlags × Slot Number
Contents Last = LastFlags × Hash

-- the setting that holds it
abbrev pub make : (k : Kind) → Contents k → Setting
make GroupContacts x = group_contacts x.0 x.1 x.2
make IndividualContacts x = individual_contacts x.0 x.1 x.2
make Lines x = lines x.0 x.1 x.2
make Key x = key x.0 x.1
make QuickTexts x = quick_texts x.0 x.1
make Home x = home x
make Channels x = channels x.0 x.1
make System x = system x
make StatusTexts x = status_texts x.0 x.1
make Group x = group x.0 x.1 x.2
make Individual x = individual x.0 x.1 x.2
make LineSlot x = line_slot x.0 x.1 x.2
make Last x = last x.0 x.1

-- every setting is one of these
abbrev pub of : (s : Setting) → (x : Contents (kind s)) × (s ≡ make (kind s) x)
of (group_contacts o f es) = ((o, f, es), refl)
of (individual_contacts o f es) = ((o, f, es), refl)
of (lines o f es) = ((o, f, es), refl)
of (key t f) = ((t, f), refl)
of (quick_texts o es) = ((o, es), refl)
of (home h) = (h, refl)
of (channels o es) = ((o, es), refl)
of (system s) = (s, refl)
of (status_texts o es) = ((o, es), refl)
of (group o f s) = ((o, f, s), refl)
of (individual o f s) = ((o, f, s), refl)
of (line_slot o f s) = ((o, f, s), refl)
of (last f h) = ((f, h), refl)

-- its kind is the one that it was made of
pub kind_make : (k : Kind) (x : Contents k) → kind (make k x) ≡ k
kind_make GroupContacts x = refl
kind_make IndividualContacts x = refl
kind_make Lines x = refl
kind_make Key x = refl
kind_make QuickTexts x = refl
kind_make Home x = refl
kind_make Channels x = refl
kind_make System x = refl
kind_make StatusTexts x = refl
kind_make Group x = refl
kind_make Individual x = refl
kind_make LineSlot x = refl
kind_make Last x = refl

-- a setting of this kind, by its contents
pub of_kind : (k : Kind) (s : Setting) → kind s ≡ k → (x : Contents k) × (s ≡ make k x)
of_kind k s e = subst (λ (l : Kind). (x : Contents l) × (s ≡ make l x)) e (of s)
