-- What makes a message's bytes a carried request, result query or reply, and what makes them none: document 01, "The carrier" and the order of
-- "Numbers returned".
use Rattle.std.specs.Prelude.{ℕ, ◌+◌, ◌≤◌, ◌≡◌, ◌⊎◌, List, [], ◌∷◌, ◌++◌, length}
use Rattle.writing.specs.declared.CfgResult.{CfgResult}
use Rattle.writing.specs.declared.CfgResult.TheVariants.{Taken, OtherVersion as NotVersion1, NoRoom, UnknownType, BadField, NoMatch}
use Rattle.writing.specs.Fields.{bits_of, Field, val, res, Shows}
use Rattle.writing.specs.Ranges.{HashSize}
use Rattle.writing.specs.declared.Coding.{Coding}
use Rattle.writing.specs.declared.Coding.TheVariants.{Unicode16, EightBit}
use Rattle.writing.specs.Settings.{Setting, Hash}
use Rattle.writing.specs.Writing.{hash, request_head, WrittenAs}

-- ---- the carrier

-- "The fixed start bytes 02 02": protocol version and service
abbrev pub start_bytes : List ℕ
start_bytes = 0x02 ∷ 0x02 ∷ []

-- "length (2 bytes), MFID 08, a byte of 4 reserved bits and the coding type (4)"
abbrev pub carrier : ℕ → ℕ → List Field
carrier stated coding_type = val 16 stated ∷ val 8 0x08 ∷ res 4 ∷ val 4 coding_type ∷ []

-- "The length counts everything after itself; 0 means that it isn't stated. Any other value must fit exactly"
abbrev pub States : ℕ → ℕ → Type 0
States stated after = (stated ≡ 0) ⊎ (stated ≡ after)

-- the message carries these data bytes under this coding type
pub record Carries (coding_type : ℕ) (data_bytes message : List ℕ) : Type 0 where
  pub stated : ℕ
  pub header : List ℕ
  pub whole : message ≡ start_bytes ++ header ++ data_bytes
  pub fields : Shows (carrier stated coding_type) (bits_of header)
  pub length_field : States stated (2 + length data_bytes)

-- "0111 (16-bit Unicode)"; "coding type 0100, eight-bit characters"
abbrev pub coding_type : Coding → ℕ
coding_type Unicode16 = 7
coding_type EightBit = 4

-- ---- requests, result queries and replies

-- "The first data byte has OTAPVer (5 bits; house: 1) and MsgType (3 bits): 0 request, 1 reply, 5 result query"
abbrev pub first_byte : ℕ → ℕ → List Field
first_byte version kind = val 5 version ∷ val 3 kind ∷ []

-- the message carries these data bytes, of which the first says this version and type
pub record Opens (version kind coding : ℕ) (data_bytes message : List ℕ) : Type 0 where
  pub carried : Carries coding data_bytes message
  pub first : ℕ
  pub rest : List ℕ
  pub parts : data_bytes ≡ first ∷ rest
  pub says : Shows (first_byte version kind) (bits_of (first ∷ []))

-- "ParamSum (8 bits, 1 to 255)" counts the settings that these bytes after it should be
pub record Counted (count : ℕ) (settings data_bytes : List ℕ) : Type 0 where
  pub head : List ℕ
  pub parts : data_bytes ≡ head ++ settings
  pub says : Shows (request_head count) (bits_of head)
  pub some_setting : 1 ≤ count

-- the message is a request: the "check of the coding type accepts 0100 and 0111"; that its settings are good is not said
pub record RequestOf (c : Coding) (count : ℕ) (settings message : List ℕ) : Type 0 where
  pub data_bytes : List ℕ
  pub carried : Carries (coding_type c) data_bytes message
  pub counted : Counted count settings data_bytes

-- "Request: ParamSum (8 bits, 1 to 255), then that many settings"
pub record Request (c : Coding) (ss : List Setting) (message : List ℕ) : Type 0 where
  pub data_bytes : List ℕ
  pub carried : Carries (coding_type c) data_bytes message
  pub written : WrittenAs c ss data_bytes

-- "Result query: 2 reserved bits, HashCode (6), the hash value. Nothing follows. Coding type ignored"
abbrev pub query : Hash → List Field
query h = val 5 1 ∷ val 3 5 ∷ res 2 ∷ hash h

pub record Query (h : Hash) (message : List ℕ) : Type 0 where
  pub any_coding : ℕ
  pub data_bytes : List ℕ
  pub carried : Carries any_coding data_bytes message
  pub written : Shows (query h) (bits_of data_bytes)
  pub in_range : HashSize h.code (length h.value)

-- CfgResult: "0 taken, or query matches", 1 to 5 as "Numbers returned" says
abbrev pub result_number : CfgResult → ℕ
result_number Taken = 0
result_number NotVersion1 = 1
result_number NoRoom = 2
result_number UnknownType = 3
result_number BadField = 4
result_number NoMatch = 5

-- "Reply: CfgResult (8), FailedCfgID (8), 2 reserved bits, HashCode (6), hash value"
abbrev pub reply : ℕ → ℕ → Hash → List Field
reply result failed h = val 5 1 ∷ val 3 1 ∷ val 8 result ∷ val 8 failed ∷ res 2 ∷ hash h

pub record Reply (result failed : ℕ) (h : Hash) (message : List ℕ) : Type 0 where
  pub data_bytes : List ℕ
  pub carried : Carries 0 data_bytes message
  pub written : Shows (reply result failed h) (bits_of data_bytes)
  pub in_range : HashSize h.code (length h.value)

-- ---- messages that are neither a request nor a result query, in the order of "Numbers returned"

-- 12, "message under 7 or over 4,096 bytes", is out of size; the most is a set's
abbrev pub InSize : ℕ → List ℕ → Type 0
InSize most message = (7 ≤ length message) × (length message ≤ most)

-- 13, "carrier field or length wrong": it carries nothing
abbrev pub NothingCarried : List ℕ → Type 0
NothingCarried message = (coding : ℕ) (data_bytes : List ℕ) → Carries coding data_bytes message → ⊥

-- its first data byte says none of these types, whatever the version
abbrev pub OtherKind : (ℕ → Type 0) → List ℕ → Type 0
OtherKind These message = (version kind coding : ℕ) (data_bytes : List ℕ) → These kind → Opens version kind coding data_bytes message → ⊥

-- 14, "MsgType not 0 or 5", whatever the version
abbrev pub OtherType : List ℕ → Type 0
OtherType = OtherKind (λ k. (k ≡ 0) ⊎ (k ≡ 5))

-- 1, "OTAPVer is not 1", whatever the type
abbrev pub OtherVersion : List ℕ → Type 0
OtherVersion message = (kind coding : ℕ) (data_bytes : List ℕ) → Opens 1 kind coding data_bytes message → ⊥

-- 4, "ParamSum missing or 0, or coding type": no request under either coding type
abbrev pub NoRequest : List ℕ → Type 0
NoRequest message = (c : Coding) (count : ℕ) (settings : List ℕ) → RequestOf c count settings message → ⊥

-- 4, "A malformed query"
abbrev pub NoQuery : List ℕ → Type 0
NoQuery message = (h : Hash) → Query h message → ⊥
