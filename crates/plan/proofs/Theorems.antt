-- The promises of the crate: each conversion has one right answer, and each goes both ways. Assumes nothing.
use Rattle.lists.proofs.Kit.{ℕ, ◌≡◌, refl, arith}
use Rattle.std.specs.Prelude.{Option, Some, None}
use Rattle.plan.specs.declared.numbers.IndividualAddress.{IndividualAddress}
use Rattle.plan.specs.declared.numbers.GroupAddress.{GroupAddress}
use Rattle.plan.specs.declared.numbers.DialledNumber.{DialledNumber}
use Rattle.plan.specs.Answers.{answer, individual, group, dialled, Answered, Back, BothWays}
use Rattle.plan.specs.Numbers.{IndividualShort, GroupShort, Individual, Group}
use Rattle.plan.proofs.AnswerLaws.{case_of, case_determined, both_ways}
use Rattle.plan.proofs.NumberLaws.{individuals, groups, one_address, one_dialled}

-- ---- two answers that a contract of this crate allows for one input are the same case with the same value

abbrev an_individual : ℕ → Option IndividualAddress
an_individual n = Some (record { 0 = n })

individual_back : (a : Option IndividualAddress) → case_of an_individual None (answer (individual a)) ≡ a
individual_back (Some a) = refl
individual_back None = refl

abbrev a_group : ℕ → Option GroupAddress
a_group n = Some (record { 0 = n })

group_back : (a : Option GroupAddress) → case_of a_group None (answer (group a)) ≡ a
group_back (Some a) = refl
group_back None = refl

abbrev a_number : ℕ → Option DialledNumber
a_number n = Some (record { 0 = n })

dialled_back : (a : Option DialledNumber) → case_of a_number None (answer (dialled a)) ≡ a
dialled_back (Some d) = refl
dialled_back None = refl

pub individual_determined : (d : ℕ) (a b : Option IndividualAddress) → Answered Individual 20 d (answer (individual a)) → Answered Individual 20 d (answer (individual b)) → a ≡ b
individual_determined = case_determined Individual (one_address IndividualShort individuals) 20 individual an_individual None individual_back

pub group_determined : (d : ℕ) (a b : Option GroupAddress) → Answered Group 20 d (answer (group a)) → Answered Group 20 d (answer (group b)) → a ≡ b
group_determined = case_determined Group (one_address GroupShort groups) 20 group a_group None group_back

pub dialled_of_individual_determined : (i : ℕ) (a b : Option DialledNumber) → Answered (Back Individual) 21 i (answer (dialled a)) → Answered (Back Individual) 21 i (answer (dialled b)) → a ≡ b
dialled_of_individual_determined = case_determined (Back Individual) (one_dialled IndividualShort individuals) 21 dialled a_number None dialled_back

pub dialled_of_group_determined : (i : ℕ) (a b : Option DialledNumber) → Answered (Back Group) 21 i (answer (dialled a)) → Answered (Back Group) 21 i (answer (dialled b)) → a ≡ b
dialled_of_group_determined = case_determined (Back Group) (one_dialled GroupShort groups) 21 dialled a_number None dialled_back

-- "Numbers and channels convert, both ways": numbers
pub individuals_both_ways : BothWays Individual 20 21
individuals_both_ways =
    both_ways Individual 20 21 (omega arith) (omega arith) (one_address IndividualShort individuals) (one_dialled IndividualShort individuals)

pub groups_both_ways : BothWays Group 20 21
groups_both_ways = both_ways Group 20 21 (omega arith) (omega arith) (one_address GroupShort groups) (one_dialled GroupShort groups)
