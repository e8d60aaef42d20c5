-- What an exported part's bytes are: the standard's request of exactly its settings, "No FF; true lengths".
use Rattle.std.specs.Prelude.{ℕ, ◌+◌, ◌≡◌, List, length}
use Rattle.std.proofs.Math.Option.{none}
use Rattle.lists.specs.Every.{All}
use Rattle.writing.specs.Carrier.{Request}
use Rattle.writing.specs.Settings.{Setting, unicode16}
use Rattle.requests.specs.Requests.{item_of}

-- the message is a request of these settings and of no others, its length is stated and true, and none of the settings is an FF
pub record StandardRequest (ss : List Setting) (message : List ℕ) : Type 0 where
  pub is : Request unicode16 ss message
  pub true_length : is.carried.stated ≡ 2 + length is.data_bytes
  pub no_last : All (λ s. item_of s ≡ none) ss
  pub only : (ts : List Setting) → Request unicode16 ts message → ts ≡ ss
