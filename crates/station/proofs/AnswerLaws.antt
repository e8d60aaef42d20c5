-- Document 01's number and values say which case of the answer it is. Assumes nothing.
use Rattle.lists.proofs.Kit.{ℕ, ◌≡◌, refl, Bool, [], ◌∷◌, get_or}
use Rattle.lists.proofs.OneToOne.{decoded}
use Rattle.writing.specs.declared.CfgResult.{CfgResult}
use Rattle.writing.specs.declared.CfgResult.TheVariants.{Taken, OtherVersion, NoRoom, UnknownType, BadField, NoMatch}
use Rattle.writing.specs.Carrier.{result_number}
use Rattle.station.specs.declared.answers.Refusal.TheVariants.{ReplyBuffer, NotAStore, MessageSize, Carrier, MessageType}
use Rattle.station.specs.declared.answers.Answer.{Answer}
use Rattle.station.specs.declared.answers.Answer.TheVariants.{Untouched, Replied}
use Rattle.station.specs.Answers.{Said, said}

-- a reply with this result
abbrev replied_as : Said → CfgResult → Answer
replied_as s x = Replied (record { result = x; failed = s.failed; send = s.send; reboot = s.reboot; length = s.reply_length })

-- the answer of a number and its values; 6 to 9 are no answer's
abbrev answer_of : Said → Answer
answer_of s =
    get_or
    (replied_as s Taken ∷ replied_as s OtherVersion ∷ replied_as s NoRoom ∷ replied_as s UnknownType ∷ replied_as s BadField ∷ replied_as s NoMatch
    ∷ replied_as s Taken ∷ replied_as s Taken ∷ replied_as s Taken ∷ replied_as s Taken
    ∷ Untouched ReplyBuffer ∷ Untouched NotAStore ∷ Untouched MessageSize ∷ Untouched Carrier ∷ Untouched MessageType ∷ []) s.number (replied_as s Taken)

reply_back : (x : CfgResult) (failed length : ℕ) (send reboot : Bool)
    → answer_of (record { number = result_number x; failed = failed; send = send; reboot = reboot; reply_length = length })
    ≡ Replied (record { result = x; failed = failed; send = send; reboot = reboot; length = length })
reply_back Taken failed length send reboot = refl
reply_back OtherVersion failed length send reboot = refl
reply_back NoRoom failed length send reboot = refl
reply_back UnknownType failed length send reboot = refl
reply_back BadField failed length send reboot = refl
reply_back NoMatch failed length send reboot = refl

answer_back : (a : Answer) → answer_of (said a) ≡ a
answer_back (Untouched ReplyBuffer) = refl
answer_back (Untouched NotAStore) = refl
answer_back (Untouched MessageSize) = refl
answer_back (Untouched Carrier) = refl
answer_back (Untouched MessageType) = refl
answer_back (Replied r) = reply_back r.result r.failed r.length r.send r.reboot

-- SAID ONE: two answers with one number and the same values are the same case
pub said_one : (a b : Answer) → said a ≡ said b → a ≡ b
said_one = decoded said answer_of answer_back
