-- Laws of what a deed makes of what its table weighs. Assumes nothing.
use Rattle.lists.proofs.Kit.{ℕ, ◌*◌, ◌<◌, ◌≡◌, sym, ap, ◌∙◌, subst, subst⁻¹, Option, none, some}
use Rattle.writing.specs.declared.Kind.{Kind}
use Rattle.writing.specs.declared.Kind.TheVariants as kinds
use Rattle.tables.specs.Limits.{handheld}
use Rattle.events.specs.Deeds.{Seen, nothing, clears, puts, removes}
use Rattle.events.specs.Knowing.{first_stays, staying, weigh}
use Rattle.events.specs.Sums.{text_bytes}
use Rattle.read_deeds.specs.declared.deeds.Deed.TheVariants.{Removes}
use Rattle.read_deeds.specs.declared.deeds.Put.{Put}
use Rattle.plain_look.specs.declared.known.Found.{Found}
use Rattle.plain_look.specs.declared.known.Looked.{Looked}
use Rattle.plain_look.specs.Looking.{anywhere, FoundIs}
use Rattle.plain_weigh.specs.declared.weights.Weight.{Weight as Weigh}
use Rattle.std.specs.declared.option.Option.{Option as Maybe}
use Rattle.std.specs.declared.option.Option.TheVariants.{Some}
use Rattle.plain_weigh.specs.Weighing.{weighs, units_most, ShortFound, UnitsTake, BytesPut, WeighRemoved, WeighIs}

-- ---- how many bytes

-- the first stays
pub put_stays : (k : Kind) (p : Put) (known : Looked) (r : ℕ) (b : Found) → known.found ≡ Some b → k ≡ kinds.QuickTexts → UnitsTake b.put.text.units r → BytesPut k p known r
put_stays k p known r b there q u = (λ o a h s is t. go o.found_at a (subst (λ (x : Maybe Found). FoundIs anywhere x o.found_at) there h.found_at) s, u.1)
  where
    go : (f : Option (ℕ × Seen)) (a : Seen) → FoundIs anywhere (Some b) f → ShortFound f → r ≡ text_bytes (staying (first_stays k) f a).text
    go none a h s = absurd h
    go (some e) a h s =
        u.0 (subst⁻¹ (λ (n : ℕ). n < units_most) h.1.text s) ∙ ap (λ (n : ℕ). 2 * n) h.1.text ∙ sym (ap (λ (x : Kind). text_bytes (staying (first_stays x) (some e) a).text) q)

-- ---- one deed

module _ (known : Looked) (w : Weigh) where
  -- the entries with a key go
  pub weigh_removes : (k : Kind) (c : ℕ) (r : Weigh) → WeighRemoved k known w r → WeighIs (Removes k c) known w (Some r)
  weigh_removes k c r f m nothing o is s h t small = absurd is
  weigh_removes k c r f m (clears j) o is s h t small = absurd is
  weigh_removes k c r f m (puts j a) o is s h t small = absurd is
  weigh_removes k c r f m (removes j d) o is s h t small = f o d h t ∙ ap (λ (x : Kind). weigh handheld (removes x d) o (weighs w)) is.0
