-- The counts of a store are those of its tables. Assumes nothing.
use Rattle.lists.proofs.Kit.{ℕ, ◌+◌, ◌*◌, ◌≡◌, ap₂, subst, List, mid_of}
use Rattle.counted_lists.specs.Counted.{Told as Counted}
use Rattle.counted_lists.proofs.EntryLaws.{entries_count}
use Rattle.slots.specs.Slots.{u16}
use Rattle.writing.specs.Ranges.{text_limits, InChannel}
use Rattle.tables.specs.declared.limits.Limits.{Limits}
use Rattle.tables.specs.declared.limits.Texts.{Texts}
use Rattle.tables.specs.Allowed.{LineOk}
use Rattle.tables.specs.Forms.{Roomy, region_start, slot_width, line_as}
use Rattle.tables.specs.Heads.{line_own}
use Rattle.tables.specs.Layout.{count_size, channel_width, channels_size}
use Rattle.shared_texts.proofs.FormLists.{channels_counted, lines_counted}
use Rattle.menu.specs.Menu.{Told, Reads}

-- how many bytes the lines take, without their order
abbrev pub lines_width : Limits → ℕ
lines_width lim = count_size + lim.lines * slot_width lim.texts line_own text_limits.short

-- what the two regions begin with are the counts
pub counts_read : (lim : Limits) → Roomy lim → (s : List ℕ) (i j a b : ℕ) → i ≡ region_start lim 12 → j ≡ lines_width lim → a ≡ region_start lim 11 → b ≡ channels_size lim → (l c : ℕ) → Counted (mid_of i j s) l → Counted (mid_of a b s) c
    → Reads lim s (record { number = 0; lines = l; channels = c })
counts_read lim room s i j a b p q u v l c x y t h =
    let form : Texts = lim.texts in
    let e = entries_count LineOk (slot_width form line_own text_limits.short) (line_as form) lim.lines t.lines _ (lines_counted lim t h.0 room) l (subst (λ (z : List ℕ). Counted z l) (λ k. mid_of (p k) (q k) (h.1 k)) x) in
    let d = entries_count InChannel channel_width u16 lim.channels t.channels _ (channels_counted lim t h.0 room) c (subst (λ (z : List ℕ). Counted z c) (λ k. mid_of (u k) (v k) (h.1 k)) y) in
    ap₂ (λ (i j : ℕ). (let a : Told = record { number = 0; lines = i; channels = j } in a)) e d
