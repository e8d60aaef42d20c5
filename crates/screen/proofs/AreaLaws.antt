-- Where a row's text stands in the area. Assumes nothing.
use Rattle.lists.proofs.Kit.{ℕ, ◌+◌, ◌*◌, ◌≡◌, List, get_or}
use Rattle.tables.specs.declared.limits.Limits.{Limits}
use Rattle.tables.specs.SharedLayout.{heads_size}
use Rattle.shared_texts.specs.Shared.{text_runs, counted_before}
use Rattle.screen.specs.declared.spots.Spot.{Spot}
use Rattle.screen.specs.Areas.{shared_span}

-- where the text stands, by what was counted and read
pub span_is : (lim : Limits) (s : List ℕ) (at : Spot) (last : ℕ) {h b n : ℕ} → h ≡ heads_size lim → b ≡ counted_before s (text_runs lim) at.table at.place → n ≡ get_or s last 0
    → record { start = h + 2 * b; bytes = 2 * n } ≡ shared_span lim s at last
span_is lim s at last p q r i = record { start = p i + 2 * q i; bytes = 2 * r i }
