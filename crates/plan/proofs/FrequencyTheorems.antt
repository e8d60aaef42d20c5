-- The promises of the crate: each conversion has one right answer, and channels go both ways. Assumes nothing.
use Rattle.lists.proofs.Kit.{ℕ, ◌≡◌, refl, arith}
use Rattle.std.specs.Prelude.{Option, Some, None}
use Rattle.plan.specs.declared.channels.Frequency.{Frequency}
use Rattle.plan.specs.declared.channels.ChannelNumber.{ChannelNumber}
use Rattle.plan.specs.Answers.{answer, frequency, channel, Answered, Back, BothWays}
use Rattle.plan.proofs.AnswerLaws.{case_of, case_determined, both_ways}
use Rattle.plan.specs.Frequencies.{Transmits, Receives}
use Rattle.plan.proofs.FrequencyLaws.{one_transmit, one_channel, one_receive}

-- ---- two answers that a contract of this crate allows for one input are the same case with the same value

abbrev a_frequency : ℕ → Option Frequency
a_frequency n = Some (record { 0 = n })

frequency_back : (a : Option Frequency) → case_of a_frequency None (answer (frequency a)) ≡ a
frequency_back (Some f) = refl
frequency_back None = refl

abbrev a_channel : ℕ → Option ChannelNumber
a_channel n = Some (record { 0 = n })

channel_back : (a : Option ChannelNumber) → case_of a_channel None (answer (channel a)) ≡ a
channel_back (Some n) = refl
channel_back None = refl

pub transmit_determined : (n : ℕ) (a b : Option Frequency) → Answered Transmits 22 n (answer (frequency a)) → Answered Transmits 22 n (answer (frequency b)) → a ≡ b
transmit_determined = case_determined Transmits one_transmit 22 frequency a_frequency None frequency_back

pub receive_determined : (n : ℕ) (a b : Option Frequency) → Answered Receives 22 n (answer (frequency a)) → Answered Receives 22 n (answer (frequency b)) → a ≡ b
receive_determined = case_determined Receives one_receive 22 frequency a_frequency None frequency_back

pub channel_determined : (f : ℕ) (a b : Option ChannelNumber) → Answered (Back Transmits) 22 f (answer (channel a)) → Answered (Back Transmits) 22 f (answer (channel b)) → a ≡ b
channel_determined = case_determined (Back Transmits) one_channel 22 channel a_channel None channel_back

-- "Numbers and channels convert, both ways": channels
pub channels_both_ways : BothWays Transmits 22 22
channels_both_ways = both_ways Transmits 22 22 (omega arith) (omega arith) one_transmit one_channel

-- no two channels share a transmit frequency
pub no_shared_frequency : (f n m : ℕ) → Transmits n f → Transmits m f → n ≡ m
no_shared_frequency = one_channel
