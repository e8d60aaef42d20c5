-- A store with some of its tables taken from a working copy of part of them is the store of both together. Assumes nothing.
use Rattle.lists.proofs.Kit.{ℕ, ◌≤◌, ◌≡◌, refl, sym, ap, ap₂, ◌∙◌, subst, subst⁻¹, Bool, true, false, cond, ◌||◌, or-true, List, ◌++◌, arith, put_mid, mid_of, drop, drop_at}
use Rattle.writing.specs.declared.Kind.{Kind}
use Rattle.writing.specs.declared.Kind.TheVariants.{GroupContacts, IndividualContacts, Lines, Key, QuickTexts, Home, Channels, System, StatusTexts, Group, Individual, LineSlot, Last}
use Rattle.tables.specs.declared.limits.Limits.{Limits}
use Rattle.tables.specs.Allowed.{Allowed}
use Rattle.tables.specs.Layout.{placed_layout, hash_bytes, key_bytes, home_bytes, system_bytes, quick_at, channels_at, channels_size}
use Rattle.tables.specs.Limits.{placed}
use Rattle.tables.specs.Owns.{own, mix, only}
use Rattle.tables.specs.SharedLayout.{shared_layout, shared_channels_at}
use Rattle.tables.specs.Tables.{Tables, fresh}
use Rattle.tables.proofs.AllowedLaws.{OwnOk, own_ok, all_ok}
use Rattle.tables.proofs.FreshLaws.{fresh_allowed}
use Rattle.tables.proofs.Frames.{region_get}
use Rattle.tables.proofs.Owns.{own_mix}
use Rattle.shared_texts.specs.Shared.{SharedOk}
use Rattle.shared_texts.proofs.SharedFrames.{shared_put}
use Rattle.shared_texts.proofs.WorkLaws.{fixed, fixed_front, fixed_long, fixed_worked}
use Rattle.working.specs.Parts.{fixed?, copied?, part_of, rejoined}
use Rattle.working.specs.Runs.{text_number}

-- ---- which tables are allowed

-- tables mixed of allowed ones
pub mix_allowed : (lim : Limits) (p : Kind → Bool) (t u : Tables) → Allowed (placed lim) t → ((j : Kind) → p j ≡ true → OwnOk (placed lim) j (own j u)) → Allowed (placed lim) (mix p t u)
mix_allowed lim p t u ok f = all_ok (placed lim) (mix p t u) (λ j. subst⁻¹ (OwnOk (placed lim) j) (own_mix p t u j) (go j (p j) refl)) tt
  where
    go : (j : Kind) (b : Bool) → p j ≡ b → OwnOk (placed lim) j (cond (p j) (own j u) (own j t))
    go j true e = subst⁻¹ (λ (b : Bool). OwnOk (placed lim) j (cond b (own j u) (own j t))) e (f j e)
    go j false e = subst⁻¹ (λ (b : Bool). OwnOk (placed lim) j (cond b (own j u) (own j t))) e (own_ok (placed lim) t ok j)

-- the store's tables with hash, key, home and system as the copy has them
abbrev pub base : Tables → Tables → Tables
base t u = mix fixed? t u

module _ (lim : Limits) (a : ℕ) (k : Kind) (t u : Tables) (ok : SharedOk lim a t) (after : SharedOk lim a (rejoined k t u)) where
  -- the copy's own
  copied_ok : (j : Kind) → copied? k j ≡ true → OwnOk (placed lim) j (own j u)
  copied_ok j e = subst (OwnOk (placed lim) j) (own_mix (copied? k) t u j ∙ ap (λ (b : Bool). cond b (own j u) (own j t)) e) (own_ok (placed lim) (rejoined k t u) after.allowed j)

  pub part_allowed : Allowed (placed lim) (part_of k u)
  part_allowed = mix_allowed lim (copied? k) fresh u (fresh_allowed (placed lim)) copied_ok

  pub base_ok : SharedOk lim a (base t u)
  base_ok = record {
    allowed = mix_allowed lim fixed? t u ok.allowed (λ j e. copied_ok j (ap (λ (b : Bool). only k j || b) e ∙ or-true (only k j)));
    room = ok.room;
  }

  -- ---- hash, key, home and system

  -- the copy has them whatever its kind
  fixed_same : fixed lim a (part_of k u) part_allowed ≡ fixed lim a (base t u) base_ok.allowed
  fixed_same =
      let h = ap (λ (b : Bool). cond b u.hash fresh.hash) (or-true (only k Last)) in
      let e = ap (λ (b : Bool). cond b u.key fresh.key) (or-true (only k Key)) in
      let n = ap (λ (b : Bool). cond b u.home fresh.home) (or-true (only k Home)) in
      let s = ap (λ (b : Bool). cond b u.system fresh.system) (or-true (only k System)) in
      (λ i. hash_bytes (h i) ++ (key_bytes (e i) ++ (home_bytes (n i) ++ system_bytes (s i))))

  -- FIXED-SAVED: they were copied
  pub fixed_saved : put_mid 0 quick_at (shared_layout lim a t) (mid_of 0 quick_at (placed_layout lim (part_of k u))) ≡ shared_layout lim a (base t u)
  unfolding shared_layout
  fixed_saved =
      ap₂ (λ (y z : List ℕ). y ++ z) (fixed_worked lim a (part_of k u) part_allowed ∙ fixed_same)
      (ap (drop quick_at) (fixed_front lim a t ok.allowed _) ∙ drop_at (fixed lim a t ok.allowed) _ quick_at (fixed_long lim a t ok.allowed))
      ∙ sym (fixed_front lim a (base t u) base_ok.allowed _)

-- KIND-FIXED: where the kind is one of these, nothing more was to be saved
pub kind_fixed : (k : Kind) (t u : Tables) → 8 ≤ text_number k → (k ≡ Channels → ⊥) → base t u ≡ rejoined k t u
kind_fixed GroupContacts t u h n = absurd (omega arith)
kind_fixed IndividualContacts t u h n = absurd (omega arith)
kind_fixed Lines t u h n = absurd (omega arith)
kind_fixed Key t u h n = refl
kind_fixed QuickTexts t u h n = absurd (omega arith)
kind_fixed Home t u h n = refl
kind_fixed Channels t u h n = absurd (n refl)
kind_fixed System t u h n = refl
kind_fixed StatusTexts t u h n = absurd (omega arith)
kind_fixed Group t u h n = absurd (omega arith)
kind_fixed Individual t u h n = absurd (omega arith)
kind_fixed LineSlot t u h n = absurd (omega arith)
kind_fixed Last t u h n = refl

-- CHANNELS-SAVED: the channels were copied
pub channels_saved : (lim : Limits) (a : ℕ) (t u : Tables) → SharedOk lim a t → SharedOk lim a (rejoined Channels t u)
    → put_mid shared_channels_at (channels_size lim) (shared_layout lim a (base t u)) (mid_of channels_at (channels_size lim) (placed_layout lim (part_of Channels u))) ≡ shared_layout lim a (rejoined Channels t u)
channels_saved lim a t u ok after =
    ap (put_mid shared_channels_at (channels_size lim) (shared_layout lim a (base t u))) (region_get lim (part_of Channels u) (part_allowed lim a Channels t u ok after) 11 (omega arith) channels_at (channels_size lim) refl refl)
    ∙ shared_put lim a (base t u) (base_ok lim a Channels t u ok after).allowed 11 (omega arith) shared_channels_at (channels_size lim) refl refl (rejoined Channels t u) _ refl
