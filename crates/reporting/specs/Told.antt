-- What each case of the call's answer tells: docs/RULES.md, "Numbers returned".
use Rattle.std.specs.Prelude.{ℕ, Result, Ok, Err}
use Rattle.reports.specs.Reporting.{Told}
use Rattle.reporting.specs.declared.answers.NoReport.{NoReport}
use Rattle.reporting.specs.declared.answers.NoReport.TheVariants.{Buffer, NotAStore, Size, Carrier, OtherType, Version, BadQuery, NoMessage}
use Rattle.reporting.specs.declared.answers.Written.{Written}

abbrev pub no_report : NoReport → ℕ
no_report Buffer = 15
no_report NotAStore = 11
no_report Size = 12
no_report Carrier = 13
no_report OtherType = 14
no_report Version = 1
no_report BadQuery = 4
no_report NoMessage = 16

-- each case's number, total and length
abbrev pub told : Result Written NoReport → Told
told (Ok w) = record { number = 0; total = w.total; message_length = w.length }
told (Err r) = record { number = no_report r; total = 0; message_length = 0 }
