-- The cases that document 01 works by hand and marks P, and that of request A3, as one table.
use Rattle.std.specs.Prelude.{ℕ, ◌≤◌, ◌<◌, true, false, ◌≡◌, List, [], ◌∷◌, ◌++◌, length}
use Rattle.lists.specs.Every.{All}
use Rattle.lists.specs.Ladder.{Answers}
use Rattle.plan.specs.Answers.{Answer, Answered, given, refused}
use Rattle.plan.specs.Frequencies.{Transmits}
use Rattle.plan.specs.Numbers.{Individual, Group}
use Rattle.writing.specs.declared.Coding.{Coding}
use Rattle.writing.specs.declared.LineFlags.{LineFlags}
use Rattle.writing.specs.declared.Operation.TheVariants.{Add, Delete, Replace}
use Rattle.writing.specs.Canonical.{canonical}
use Rattle.writing.specs.Fields.{bits_of, Shows}
use Rattle.writing.specs.Ranges.{text_limits, InRange}
use Rattle.writing.specs.Settings.{Setting, home, channels, lines, unicode16}
use Rattle.writing.specs.Writing.{number, Written}
use Rattle.tables.specs.declared.limits.Limits.{Limits}
use Rattle.tables.specs.Forms.{layout}
use Rattle.tables.specs.Limits.{handheld}
use Rattle.tables.specs.Tables.{Line, Tables, fresh}
use Rattle.writing.specs.declared.Kind.TheVariants.{Lines, Channels}
use Rattle.tables.specs.Owns.{put_own}
use Rattle.requests.specs.Requests.{Fault}
use Rattle.slots.specs.Slots.{written_over}
use Rattle.station.specs.Taking.{AfterTaking, taken}

pub data Case : Type 0 where
  individual : (dialled : ℕ) → Answer → Case  -- the only answer: 0 and an address, or a refusal's number
  group : (dialled : ℕ) → Answer → Case
  transmit : (channel : ℕ) → Answer → Case
  digits_are : (digits bytes : List ℕ) → Case  -- a number's only bytes
  setting_is : Setting → (bytes : List ℕ) → Case  -- the only setting written as these bytes, which have reserved bits 0; in range as the last one counted
  refused_setting : (bytes : List ℕ) (number : ℕ) → Case  -- where a setting should stand, these bytes are at fault with this number only, whatever the coding type, the set and what follows
  taken_is : (before : Tables) (message reply : List ℕ) (after : Tables) → Case  -- a request to a set with these tables: its reply, and the tables that it leaves

-- this outcome is allowed, and no other
pub record Only {A : Type 0} (Allows : A → Type 0) (outcome : A) : Type 0 where
  pub allowed : Allows outcome
  pub alone : (other : A) → Allows other → other ≡ outcome

-- these bytes show the number
abbrev pub NumberIn : List ℕ → List ℕ → Type 0
NumberIn digits bytes = All (◌< 256) bytes × Shows (number digits) (bits_of bytes)

-- what taking a request without FF leaves: number 0, failed ID 0, nothing to send, no restart; the bytes of these tables, and this reply over the buffer
abbrev pub took : (reply : List ℕ) → Tables → (buffer : List ℕ) → AfterTaking
took reply after buffer = record {
  answer = record { number = 0; failed = 0; send = false; reboot = false; reply_length = length reply };
  store = layout handheld after;
  reply = written_over reply buffer;
}

-- what a case claims
abbrev pub CaseHolds : Case → Type 0
CaseHolds (individual dialled a) = Only (Answered Individual 20 dialled) a
CaseHolds (group dialled a) = Only (Answered Group 20 dialled) a
CaseHolds (transmit channel a) = Only (Answered Transmits 22 channel) a
CaseHolds (digits_are digits bytes) = Only (NumberIn digits) bytes
CaseHolds (setting_is s bytes) = Only (λ t. Written unicode16 t bytes) s × (canonical unicode16 s ≡ bytes) × InRange text_limits 0 s
CaseHolds (refused_setting bytes number) = (c : Coding) (lim : Limits) (left : ℕ) (t : Tables) (rest : List ℕ) → Only (Fault c lim left t (bytes ++ rest)) number
CaseHolds (taken_is before message reply after) =
    (store buffer : List ℕ) → store ≡ layout handheld before → 20 ≤ length buffer → Only (Answers (taken handheld message store buffer)) (took reply after buffer)

-- the flags of 11: PABX, and nothing else
abbrev pub pabx_only : LineFlags
pabx_only = record { encryption = false; emergency = false; priority = 0; pabx = true }

-- those of a PSTN line
abbrev pub pstn_only : LineFlags
pstn_only = record { encryption = false; emergency = false; priority = 0; pabx = false }

-- the settings of 10 and 11
abbrev pub two_channels : Setting
two_channels = channels Replace (241 ∷ 640 ∷ [])

abbrev pub one_contact : Setting
one_contact = lines Add pabx_only (record { number = 2 ∷ 3 ∷ 4 ∷ 5 ∷ []; text = [] } ∷ [])

-- the delete of its line
abbrev pub one_deleted : Setting
one_deleted = lines Delete pabx_only (record { number = 2 ∷ 3 ∷ 4 ∷ 5 ∷ []; text = [] } ∷ [])

-- the line that 11 adds, and the PSTN line with its digits
abbrev pub line_2345 : Line
line_2345 = record { flags = pabx_only; number = 2 ∷ 3 ∷ 4 ∷ 5 ∷ []; text = [] }

abbrev pub pstn_2345 : Line
pstn_2345 = record { flags = pstn_only; number = 2 ∷ 3 ∷ 4 ∷ 5 ∷ []; text = [] }

-- the reply to 10 and 11, and to the delete
abbrev pub reply_0 : List ℕ
reply_0 = 0x02 ∷ 0x02 ∷ 0x00 ∷ 0x06 ∷ 0x08 ∷ 0x00 ∷ 0x09 ∷ 0x00 ∷ 0x00 ∷ 0x00 ∷ []

-- the table
abbrev pub marked : List Case
marked =
    individual 32820200 (given 0x100001)  -- 1
    ∷ individual 32841899 (given 0x103C28)  -- 2
    ∷ individual 32842200 (given 0x103C29)  -- 3
    ∷ individual 80689549 (given 0xFF7DC8)  -- 4
    ∷ group 32820900 (given 0x100001)  -- 5
    ∷ group 80689999 (given 0xFF1B58)  -- 6
    ∷ individual 32819200 (refused 20)
    ∷ individual 32842550 (refused 20)
    ∷ transmit 240 (given 3610000)  -- 7
    ∷ transmit 241 (given 3510125)
    ∷ transmit 560 (given 3550000)
    ∷ transmit 640 (given 3560000)
    ∷ transmit 0 (refused 22)
    ∷ transmit 641 (refused 22)
    ∷ digits_are (2 ∷ 3 ∷ 4 ∷ 5 ∷ []) (0x23 ∷ 0x45 ∷ 0xFF ∷ [])  -- 8
    ∷ digits_are (1 ∷ 2 ∷ 3 ∷ []) (0x12 ∷ 0x3F ∷ [])
    ∷ setting_is (home (record { nzi = 15; np = 806 })) (0xCD ∷ 0x00 ∷ 0x05 ∷ 0x07 ∷ 0xE4 ∷ 0xC0 ∷ [])  -- 9
    ∷ refused_setting (0xCD ∷ 0x00 ∷ 0x05 ∷ 0x07 ∷ 0xE4 ∷ 0xE0 ∷ []) 4
    ∷ setting_is two_channels (0xCE ∷ 0x00 ∷ 0x07 ∷ 0xC0 ∷ 0x02 ∷ 0x0F ∷ 0x12 ∷ 0x80 ∷ [])  -- the setting of 10
    ∷ setting_is one_contact (0xCA ∷ 0x00 ∷ 0x09 ∷ 0x42 ∷ 0x01 ∷ 0x23 ∷ 0x45 ∷ 0xFF ∷ 0x00 ∷ 0x00 ∷ [])  -- the setting of 11
    ∷ taken_is (put_own Channels fresh (300 ∷ []))
    (0x02 ∷ 0x02 ∷ 0x00 ∷ 0x0C ∷ 0x08 ∷ 0x07 ∷ 0x08 ∷ 0x01 ∷ 0xCE ∷ 0x00 ∷ 0x07 ∷ 0xC0 ∷ 0x02 ∷ 0x0F ∷ 0x12 ∷ 0x80 ∷ []) reply_0
    (put_own Channels fresh (241 ∷ 640 ∷ []))  -- 10
    ∷ taken_is fresh
    (0x02 ∷ 0x02 ∷ 0x00 ∷ 0x0E ∷ 0x08 ∷ 0x07 ∷ 0x08 ∷ 0x01 ∷ 0xCA ∷ 0x00 ∷ 0x09 ∷ 0x42 ∷ 0x01 ∷ 0x23 ∷ 0x45 ∷ 0xFF ∷ 0x00 ∷ 0x00 ∷ []) reply_0
    (put_own Lines fresh (line_2345 ∷ []))  -- 11
    ∷ taken_is (put_own Lines fresh (line_2345 ∷ pstn_2345 ∷ []))
    (0x02 ∷ 0x02 ∷ 0x00 ∷ 0x0E ∷ 0x08 ∷ 0x07 ∷ 0x08 ∷ 0x01 ∷ 0xCA ∷ 0x00 ∷ 0x09 ∷ 0x82 ∷ 0x01 ∷ 0x23 ∷ 0x45 ∷ 0xFF ∷ 0x00 ∷ 0x00 ∷ []) reply_0
    (put_own Lines fresh (pstn_2345 ∷ []))  -- of request A3: both lines there, and one deleted
    ∷ []
