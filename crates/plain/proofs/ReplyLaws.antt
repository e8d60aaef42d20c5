-- The hash at a place in the bytes that keep it, and the replies that carry it. Assumes nothing.
use Rattle.lists.proofs.Kit.{ℕ, ◌<◌, ◌≡◌, refl, ap, ◌∙◌, subst, subst⁻¹, ◌⊎◌, inl, inr, Bool, true, false, List, length, take, drop}
use Rattle.lists.specs.Bytes.{Bytes}
use Rattle.lists.specs.Every.{All}
use Rattle.lists.proofs.Bytes.{bytes_all, bytes_take, bytes_drop}
use Rattle.writing.specs.declared.LastFlags.{LastFlags}
use Rattle.writing.specs.declared.CfgResult.{CfgResult}
use Rattle.writing.specs.declared.CfgResult.TheVariants.{Taken, NoMatch}
use Rattle.writing.specs.Carrier.{result_number}
use Rattle.writing.specs.Ranges.{HashSize}
use Rattle.writing.specs.Settings.{Hash}
use Rattle.read_fields.specs.declared.hashes.HashPlace.{HashPlace}
use Rattle.read_fields.proofs.HashLaws.{bytes_out}
use Rattle.tables.specs.Allowed.{HashOk}
use Rattle.tables.specs.Layout.{hash_bytes}
use Rattle.tables.specs.Limits.{handheld}
use Rattle.store_places.specs.Changes.{HashPut}
use Rattle.station.specs.Queries.{SameAs, HashSame}
use Rattle.station.specs.Replies.{ReplyWritten}
use Rattle.station.specs.Taking.{replies, Asked}
use Rattle.station.proofs.TakeLaws.{replied}
use Rattle.plain_judge.specs.Judging.{HashStands}
use Rattle.plain.specs.declared.answers.Answer.TheVariants.{Replied}
use Rattle.plain.specs.Plain.{plain_leaves}
use Rattle.plain.specs.Steps.{HashAsBytes, Queried, Accepted}

-- a hash that stands in bytes may be kept
pub stands_ok : (m : List ℕ) (p : HashPlace) (h : Hash) → Bytes m → HashStands m p h → HashOk h
stands_ok m p h b s = record {
  size = s.size;
  bytes = subst⁻¹ (All (◌< 256)) (bytes_out m p.start b h.value _ s.stands).0 (bytes_all (take (length h.value) (drop p.start m)) (bytes_take (length h.value) (drop p.start m) (bytes_drop p.start m b)));
}

-- eleven bytes in which the hash at a place was put
pub put_as_bytes : (m : List ℕ) (p : HashPlace) (was r : List ℕ) → Bytes m → length was ≡ 11 → length r ≡ 11 → HashPut m p was r → HashAsBytes m p r
put_as_bytes m p was r b k l put = (
  l,
  λ h s. (
    stands_ok m p h b s,
    put h.value (subst⁻¹ (λ (c : ℕ). HashSize c (length h.value)) s.code s.size) s.stands k
        ∙ ap (λ (c : ℕ). hash_bytes (record { code = c; value = h.value })) s.code,
  ),
)

-- the reply to a request that was taken
pub accepted : (m : List ℕ) (f : LastFlags) (p : HashPlace) (hash reply after : List ℕ) (n : ℕ) → HashAsBytes m p hash → ReplyWritten 0 0 hash reply after n
    → Accepted m f p reply after (record { result = Taken; failed = 0; send = f.reply; reboot = f.reboot; length = n })
accepted m f p hash reply after n held w message area area_after h s =
    let (ok, e) = held.1 h s in
    replied handheld message area reply Taken 0 0 f.reply f.reboot h area_after hash after n refl ok e w

module _ (message : List ℕ) (place : HashPlace) (area : List ℕ) (kept : HashPlace) (hash reply after : List ℕ) (result : CfgResult) (number n : ℕ) where
  -- the query matches exactly where its hash is the one at the place of the area
  pub queried : (k : Bool) → HashAsBytes area kept hash → HashSame message place hash k → ((k ≡ true) × (result ≡ Taken)) ⊎ ((k ≡ false) × (result ≡ NoMatch))
      → number ≡ result_number result → ReplyWritten number 0 hash reply after n
      → Queried message place area kept reply after (record { result = result; failed = 0; send = true; reboot = false; length = n })
  queried k held same which numbered w t s (size, h, q, code, stands) = (h, q, by which)
    where
      ok : HashOk t.hash
      ok = (held.1 t.hash s).0

      kept_bytes : hash ≡ hash_bytes t.hash
      kept_bytes = (held.1 t.hash s).1

      compared : SameAs h t.hash k
      compared = same h t.hash ok kept_bytes code q.in_range stands

      written : (said : CfgResult) → result ≡ said
          → plain_leaves (Replied (record { result = result; failed = 0; send = true; reboot = false; length = n })) area after
          ≡ replies handheld message area reply (result_number said) 0 true false t.hash area
      written said e =
          replied handheld message area reply result number 0 true false t.hash area hash after n numbered ok kept_bytes w
          ∙ ap (λ (x : CfgResult). replies handheld message area reply (result_number x) 0 true false t.hash area) e

      by : ((k ≡ true) × (result ≡ Taken)) ⊎ ((k ≡ false) × (result ≡ NoMatch))
          → Asked handheld message area reply h t.hash (plain_leaves (Replied (record { result = result; failed = 0; send = true; reboot = false; length = n })) area after)
      by (inl (e, z)) = let (a, b) = subst (SameAs h t.hash) e compared in inl (a, b, written Taken z)
      by (inr (e, z)) = inr (subst (SameAs h t.hash) e compared, written NoMatch z)
