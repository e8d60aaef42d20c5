-- Every case of the table holds. Assumes nothing.
use Rattle.lists.proofs.Kit.{◌<◌, true≢false, [], ◌∷◌, refl, arith, lit≤}
use Rattle.lists.specs.Every.{All}
use Rattle.plan.specs.Frequencies.{Transmits, simplex, paired}
use Rattle.plan.specs.Numbers.{Individual, IndividualShort, of_700, of_350, GroupShort, of_100}
use Rattle.writing.specs.declared.Kind.TheVariants.{Lines, Home, Channels}
use Rattle.writing.specs.declared.LineFlags.{LineFlags}
use Rattle.plan.proofs.NumberLaws.{individuals, groups}
use Rattle.writing.specs.Ranges.{text_limits, InNumber, InRange}
use Rattle.writing.specs.Settings.{home}
use Rattle.tables.specs.Allowed.{Allowed, LineOk}
use Rattle.tables.specs.Limits.{handheld}
use Rattle.tables.specs.Tables.{fresh}
use Rattle.tables.specs.Owns.{put_own}
use Rattle.tables.proofs.AllowedLaws.{channels_allowed}
use Rattle.tables.proofs.FreshLaws.{fresh_allowed}
use Rattle.tables.proofs.LineTypes.{both_types}
use Rattle.cases.specs.Marked.{CaseHolds, two_channels, one_contact, one_deleted, line_2345, pstn_2345, marked}
use Rattle.cases.proofs.PlanRows.{member, channel, refusal_only, no_channel_0, no_channel_641, no_fleet_19, no_member_550}
use Rattle.cases.proofs.TakenRows.{taken_row}
use Rattle.cases.proofs.WritingRows.{digits, setting, out_of_range}

-- a row, and those below it
infixr 60 ◌then◌
abbrev ◌then◌ : {P Q : Type 0} → P → Q → P × Q
p then q = (p, q)

-- the settings of 10 and 11 are in range
channels_in_range : InRange text_limits 0 two_channels
channels_in_range = ((lit≤ tt, lit≤ tt), ((lit≤ tt, lit≤ tt), tt))

number_in_range : InNumber (2 ∷ 3 ∷ 4 ∷ 5 ∷ [])
number_in_range = (lit≤ tt, lit≤ tt, (lit≤ tt, (lit≤ tt, (lit≤ tt, (lit≤ tt, tt)))))

contact_in_range : InRange text_limits 0 one_contact
contact_in_range = ((number_in_range, lit≤ tt), tt)

-- the tables before 10 are a set's
channel_300 : Allowed handheld (put_own Channels fresh (300 ∷ []))
channel_300 = channels_allowed handheld fresh (fresh_allowed handheld) (300 ∷ []) (lit≤ tt, ((lit≤ tt, lit≤ tt), tt))

-- and so are those with both lines
line_ok : (f : LineFlags) → f.priority < 4 → LineOk (record { flags = f; number = 2 ∷ 3 ∷ 4 ∷ 5 ∷ []; text = [] })
line_ok f p = record { priority = p; number = number_in_range; text = record { short = lit≤ tt; units = tt } }

both_2345 : Allowed handheld (put_own Lines fresh (line_2345 ∷ pstn_2345 ∷ []))
both_2345 = both_types handheld fresh (fresh_allowed handheld) (lit≤ tt) line_2345 pstn_2345 (line_ok _ (lit≤ tt)) (line_ok _ (lit≤ tt)) true≢false (lit≤ tt)

-- THE MARKED CASES
pub marked_hold : All CaseHolds marked
marked_hold =
    member IndividualShort individuals 328 20 200 1 tt (of_700 (lit≤ tt) (lit≤ tt) (lit≤ tt) (lit≤ tt) refl)
    then member IndividualShort individuals 328 41 899 15400 tt (of_700 (lit≤ tt) (lit≤ tt) (lit≤ tt) (lit≤ tt) refl)
    then member IndividualShort individuals 328 42 200 15401 tt (of_350 (lit≤ tt) (lit≤ tt) (lit≤ tt) (lit≤ tt) refl)
    then member IndividualShort individuals 806 89 549 32200 tt (of_350 (lit≤ tt) (lit≤ tt) (lit≤ tt) (lit≤ tt) refl)
    then member GroupShort groups 328 20 900 1 tt (of_100 (lit≤ tt) (lit≤ tt) (lit≤ tt) (lit≤ tt) refl)
    then member GroupShort groups 806 89 999 7000 tt (of_100 (lit≤ tt) (lit≤ tt) (lit≤ tt) (lit≤ tt) refl)
    then refusal_only Individual 20 _ no_fleet_19
    then refusal_only Individual 20 _ no_member_550
    then channel 240 3610000 (simplex (lit≤ tt) (lit≤ tt) refl)
    then channel 241 3510125 (paired (lit≤ tt) (lit≤ tt) refl)
    then channel 560 3550000 (paired (lit≤ tt) (lit≤ tt) refl)
    then channel 640 3560000 (paired (lit≤ tt) (lit≤ tt) refl)
    then refusal_only Transmits 22 _ no_channel_0
    then refusal_only Transmits 22 _ no_channel_641
    then digits (2 ∷ 3 ∷ 4 ∷ 5 ∷ []) _ tt tt refl
    then digits (1 ∷ 2 ∷ 3 ∷ []) _ tt tt refl
    then setting _ _ tt refl (lit≤ tt)
    then out_of_range Home (home (record { nzi = 15; np = 807 })) _ (λ c. tt) (λ c. refl) (λ left. omega arith)
    then setting _ _ tt refl channels_in_range
    then setting _ _ tt refl contact_in_range
    then taken_row two_channels _ _ channel_300 tt channels_in_range refl refl refl tt _ refl
    then taken_row one_contact _ _ (fresh_allowed handheld) tt contact_in_range refl refl refl tt _ refl
    then taken_row one_deleted _ _ both_2345 tt contact_in_range refl refl refl tt _ refl
    then tt
