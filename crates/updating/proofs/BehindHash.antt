-- BEHIND THE HASH: two stores hold the same tables, the kept hash aside, exactly if the bytes behind the hash are the same in both. Assumes nothing.
use Rattle.lists.proofs.Kit.{ℕ, ◌≡◌, sym, ap, ◌∙◌, ◌↔◌, List, ◌++◌, drop, take-append-drop, drop_at}
use Rattle.writing.specs.Settings.{Hash}
use Rattle.tables.specs.declared.limits.Limits.{Limits}
use Rattle.tables.specs.declared.limits.Texts.{Texts}
use Rattle.tables.specs.declared.limits.Texts.TheVariants.{Placed, Shared}
use Rattle.tables.specs.Allowed.{Allowed}
use Rattle.tables.specs.Forms.{laid, layout}
use Rattle.tables.specs.Layout.{hash_bytes, hash_size, placed_layout}
use Rattle.tables.specs.SharedLayout.{shared_layout}
use Rattle.tables.specs.Store.{Holds}
use Rattle.tables.specs.Tables.{Tables, no_hash}
use Rattle.tables.proofs.AllowedLaws.{forget_allowed}
use Rattle.tables.proofs.FixedCodes.{hash_code}
use Rattle.shared_texts.proofs.FormFrames.{hash_stands}
use Rattle.shared_texts.proofs.Forms.{layout_one}
use Rattle.requests.specs.Requests.{forget}
use Rattle.restore.specs.Restored.{SameTables}

-- what stands behind a hash
past_hash : (h : Hash) (r : List ℕ) → drop hash_size (hash_bytes h ++ r) ≡ r
past_hash h r = drop_at (hash_bytes h) r hash_size (hash_code.long h)

-- in either form, it is the same with no hash kept
forget_behind : (lim : Limits) (t : Tables) → drop hash_size (layout lim (forget t)) ≡ drop hash_size (layout lim t)
unfolding placed_layout shared_layout
forget_behind lim t = go lim.texts
  where
    go : (x : Texts) → drop hash_size (laid x lim (forget t)) ≡ drop hash_size (laid x lim t)
    go Placed = past_hash no_hash _ ∙ sym (past_hash t.hash _)
    go (Shared a) = past_hash no_hash _ ∙ sym (past_hash t.hash _)

module _ (lim : Limits) where
  -- ONE HELD: a store holds one set of tables
  pub one_held : (t u : Tables) (store : List ℕ) → Holds lim t store → Holds lim u store → t ≡ u
  one_held t u store h k = layout_one lim t u h.0 k.0 (sym h.1 ∙ k.1)

  -- a store is its hash and what stands behind it
  in_two : (t : Tables) → Allowed lim t → layout lim t ≡ hash_bytes t.hash ++ drop hash_size (layout lim t)
  in_two t ok = sym (take-append-drop hash_size (layout lim t)) ∙ ap (λ (h : List ℕ). h ++ drop hash_size (layout lim t)) (hash_stands lim t ok)

  -- SAME BEHIND
  pub same_behind : (t u : Tables) (a b : List ℕ) → Holds lim t a → Holds lim u b → (drop hash_size a ≡ drop hash_size b) ↔ SameTables t u
  same_behind t u a b h k = (
    λ e. layout_one lim (forget t) (forget u) (forget_allowed lim t h.0) (forget_allowed lim u k.0)
        (in_two (forget t) (forget_allowed lim t h.0)
        ∙ ap (λ (r : List ℕ). hash_bytes no_hash ++ r) (forget_behind lim t ∙ sym (ap (drop hash_size) h.1) ∙ e ∙ ap (drop hash_size) k.1 ∙ sym (forget_behind lim u))
        ∙ sym (in_two (forget u) (forget_allowed lim u k.0))),
    λ e. ap (drop hash_size) h.1 ∙ sym (forget_behind lim t) ∙ ap (λ (v : Tables). drop hash_size (layout lim v)) e ∙ forget_behind lim u ∙ sym (ap (drop hash_size) k.1),
  )
