-- Regions in the bytes of a store: each stands in its bytes exactly if all together stand in theirs, and the units that each counts are those that all count. Assumes nothing.
use Rattle.lists.proofs.Kit.{ℕ, ◌+◌, ◌≡◌, refl, sym, ap, ap₂, ◌∙◌, ◌↔◌, List, [], ◌∷◌, ◌++◌, arith, mid_of, take, drop, take_at, drop_at, drop-drop, take-add, take-take}
use Rattle.slots.specs.Slots.{EntryOf}
use Rattle.slots.proofs.Parts.{get_behind}
use Rattle.shared_texts.specs.Regions.{Region, whole, Stand, units_from}
use Rattle.shared_texts.proofs.RegionLaws.{AllLawful}

module _ (n m at : ℕ) (s : List ℕ) where
  -- n bytes from a place on, of n and m more
  pub mid_first : take n (mid_of at (n + m) s) ≡ mid_of at n s
  mid_first = take-take n (n + m) (drop at s) (omega arith)

  -- and the m behind them
  pub mid_after : drop n (mid_of at (n + m) s) ≡ mid_of (at + n) m s
  mid_after = sym (get_behind n at m s)

  -- which together are all
  pub mid_both : mid_of at (n + m) s ≡ mid_of at n s ++ mid_of (at + n) m s
  mid_both = take-add n m (drop at s) ∙ ap (λ (l : List ℕ). mid_of at n s ++ take m l) (drop-drop n at s)

-- STAND-ALL: each region stands in its bytes exactly if all together stand in theirs
pub stand_all : (ps : List Region) → AllLawful ps → (at : ℕ) (s : List ℕ) → Stand ps at s ↔ EntryOf (whole ps).HeadOk (whole ps).bytes (mid_of at (whole ps).wide s)
stand_all [] l at s = (λ x. record { entry = tt; holds = tt; bytes = refl }, λ x. tt)
stand_all (p ∷ ps) l at s =
    let q = whole ps in
    let r = stand_all ps l.1 (at + p.wide) s in (
      λ x.
          let y = r.0 x.1 in
          record {
            entry = (x.0.entry, y.entry);
            holds = (x.0.holds, y.holds);
            bytes = mid_both p.wide q.wide at s ∙ ap₂ (λ (u v : List ℕ). u ++ v) x.0.bytes y.bytes;
          },
      λ z.
          let w = l.0.wide z.entry.0 z.holds.0 in (
            record {
              entry = z.entry.0;
              holds = z.holds.0;
              bytes = sym (mid_first p.wide q.wide at s) ∙ ap (take p.wide) z.bytes ∙ take_at (p.bytes z.entry.0) (q.bytes z.entry.1) p.wide w;
            },
            r.1 (record {
              entry = z.entry.1;
              holds = z.holds.1;
              bytes = sym (mid_after p.wide q.wide at s) ∙ ap (drop p.wide) z.bytes ∙ drop_at (p.bytes z.entry.0) (q.bytes z.entry.1) p.wide w;
            }),
          ),
    )

-- UNITS-ALL: what each counts is what all count
pub units_all : (ps : List Region) (at : ℕ) (s : List ℕ) → units_from ps at s ≡ (whole ps).units (mid_of at (whole ps).wide s)
units_all [] at s = refl
units_all (p ∷ ps) at s =
    ap₂ (λ (a b : ℕ). a + b)
    (ap p.units (sym (mid_first p.wide (whole ps).wide at s)))
    (units_all ps (at + p.wide) s ∙ ap (whole ps).units (sym (mid_after p.wide (whole ps).wide at s)))
