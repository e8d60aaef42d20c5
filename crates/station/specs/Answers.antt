-- What taking a message answers, in document 01's numbers and values: "Numbers returned".
use Rattle.std.specs.Prelude.{ℕ, Bool, false}
use Rattle.writing.specs.Carrier.{result_number}
use Rattle.station.specs.declared.answers.Refusal.{Refusal}
use Rattle.station.specs.declared.answers.Refusal.TheVariants.{ReplyBuffer, NotAStore, MessageSize, Carrier, MessageType}
use Rattle.station.specs.declared.answers.Answer.{Answer}
use Rattle.station.specs.declared.answers.Answer.TheVariants.{Untouched, Replied}

-- "The answer also says send, reboot and reply length"
pub record Said : Type 0 where
  pub number : ℕ
  pub failed : ℕ
  pub send : Bool
  pub reboot : Bool
  pub reply_length : ℕ

-- the numbers of the refusals that touch nothing
abbrev pub refusal_number : Refusal → ℕ
refusal_number ReplyBuffer = 10
refusal_number NotAStore = 11
refusal_number MessageSize = 12
refusal_number Carrier = 13
refusal_number MessageType = 14

-- "for 10 to 14: ID 0, no, no, length 0"
abbrev pub refused_with : ℕ → Said
refused_with n = record { number = n; failed = 0; send = false; reboot = false; reply_length = 0 }

-- each case's number and values
abbrev pub said : Answer → Said
said (Untouched r) = refused_with (refusal_number r)
said (Replied r) = record { number = result_number r.result; failed = r.failed; send = r.send; reboot = r.reboot; reply_length = r.length }
