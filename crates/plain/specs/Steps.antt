-- How a message is handled, step by step. No promise cites these.
use Rattle.std.specs.Prelude.{ℕ, ◌≤◌, ◌≡◌, List, length}
use Rattle.writing.specs.declared.LastFlags.{LastFlags}
use Rattle.writing.specs.declared.CfgResult.{CfgResult}
use Rattle.writing.specs.Carrier.{result_number}
use Rattle.writing.specs.Settings.{Hash}
use Rattle.read_fields.specs.declared.hashes.HashPlace.{HashPlace}
use Rattle.read_carrier.specs.Message.{MessageIs}
use Rattle.read_carrier.specs.declared.carrier.Message.TheVariants.{Query as AQuery, Request as ARequest}
use Rattle.tables.specs.Allowed.{HashOk}
use Rattle.tables.specs.Layout.{hash_bytes}
use Rattle.tables.specs.Limits.{handheld}
use Rattle.tables.specs.Tables.{Tables}
use Rattle.requests.specs.declared.run.Request.{Request}
use Rattle.station.specs.Taking.{replies, turned_down, AsQuery}
use Rattle.station.specs.declared.answers.Reply.{Reply}
use Rattle.plain_judge.specs.Judging.{HashStands}
use Rattle.plain_log.specs.declared.checks.Area.{Area}
use Rattle.plain_log.specs.Checking.{AreaSeen}
use Rattle.plain.specs.declared.answers.Answer.{Answer}
use Rattle.plain.specs.declared.answers.Answer.TheVariants.{Replied}
use Rattle.plain.specs.Plain.{plain_leaves, PlainHandled}

-- the 11 bytes of the hash that stands at a place, which may be kept
abbrev pub HashAsBytes : List ℕ → HashPlace → List ℕ → Type 0
HashAsBytes m p r = (length r ≡ 11) × ((h : Hash) → HashStands m p h → HashOk h × (r ≡ hash_bytes h))

-- a message that was turned down with this result and failed ID
abbrev pub TurnedDown : CfgResult → (failed : ℕ) → List ℕ → List ℕ → Reply → Type 0
TurnedDown result failed reply after r =
    (message area : List ℕ) → plain_leaves (Replied r) area after ≡ turned_down handheld message area reply (result_number result) failed

-- a result query that was answered
abbrev pub Queried : List ℕ → HashPlace → List ℕ → HashPlace → List ℕ → List ℕ → Reply → Type 0
Queried message place area kept reply after r =
    (t : Tables) → HashStands area kept t.hash → MessageIs handheld.message message (AQuery place)
    → AsQuery handheld message area reply t (plain_leaves (Replied r) area after)

-- the reply to a request that was taken, whatever the area becomes
abbrev pub Accepted : List ℕ → LastFlags → HashPlace → List ℕ → List ℕ → Reply → Type 0
Accepted m f place reply after r =
    (message area area_after : List ℕ) (h : Hash) → HashStands m place h
    → plain_leaves (Replied r) area_after after ≡ replies handheld message area reply 0 0 f.reply f.reboot h area_after

-- a request that was read, to an area that was
abbrev pub RequestTaken : List ℕ → Request → List ℕ → Area → List ℕ → List ℕ → List ℕ → List ℕ → Answer → Type 0
RequestTaken m q s seen reply ws after reply_after r =
    20 ≤ length reply → AreaSeen s ws seen → MessageIs handheld.message m (ARequest q.count q.at q.coding)
    → PlainHandled m s reply (plain_leaves r after reply_after)
