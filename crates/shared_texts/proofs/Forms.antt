-- The bytes of a set's tables in the form that its limits name: how long they are, that they are bytes, and that equal bytes are equal tables. Assumes nothing.
use Rattle.lists.proofs.Kit.{ℕ, ◌≤◌, ◌≡◌, sym, ap, ◌∙◌, subst, List, ◌++◌, length, take, drop}
use Rattle.lists.specs.Bytes.{Bytes}
use Rattle.slots.proofs.Runs.{copy_whole}
use Rattle.tables.specs.declared.limits.Limits.{Limits}
use Rattle.tables.specs.declared.limits.Texts.{Texts}
use Rattle.tables.specs.declared.limits.Texts.TheVariants.{Placed, Shared}
use Rattle.tables.specs.Allowed.{Allowed}
use Rattle.tables.specs.Forms.{laid, layout, AreaFits, Roomy}
use Rattle.tables.specs.Limits.{placed}
use Rattle.tables.specs.Store.{StoreOf, Holds}
use Rattle.tables.specs.Tables.{Tables}
use Rattle.tables.specs.Texts.{text_sum, TextRoom}
use Rattle.tables.proofs.AllowedLaws.{allowed_placed}
use Rattle.tables.proofs.LayoutLaws.{placed_length, placed_bytes, placed_one}
use Rattle.shared_texts.specs.Shared.{SharedRoomy, SharedOk}
use Rattle.shared_texts.proofs.SharedLaws.{shared_length, shared_bytes, shared_one}

-- ---- what a set whose texts share an area of a bytes is

-- its area has room behind the heads
pub area_roomy : (lim : Limits) (a : ℕ) → Roomy lim → AreaFits (Shared a) lim → SharedRoomy lim a
area_roomy lim a r f = record { fits = f; few_channels = r.few_channels; few_lines = r.few_lines }

-- and its tables have room for their texts
pub texts_ok : (lim : Limits) (a : ℕ) (t : Tables) → Allowed lim t → TextRoom (Shared a) (text_sum t) → SharedOk lim a t
texts_ok lim a t ok r = record { allowed = allowed_placed lim t ok; room = r }

-- ---- the bytes

-- LAYOUT-LENGTH: where the tables fit, their bytes fill the store
pub layout_length : (lim : Limits) (t : Tables) → Roomy lim → Allowed lim t → length (layout lim t) ≡ lim.size
layout_length lim t r ok = go lim.texts r.area
  where
    go : (x : Texts) → AreaFits x lim → length (laid x lim t) ≡ lim.size
    go Placed f = placed_length lim t r (allowed_placed lim t ok)
    go (Shared a) f = shared_length lim a t (area_roomy lim a r f) (allowed_placed lim t ok)

-- HOLDS-STORE: so the bytes that hold allowed tables, where these have room, are a store
pub holds_store : (lim : Limits) (t : Tables) (store : List ℕ) → Roomy lim → Holds lim t store → StoreOf lim store
holds_store lim t store room holds = record {
  size = ap length holds.1 ∙ layout_length lim t room holds.0;
  roomy = room;
  store = record { tables = t; allowed = holds.0; bytes_are = holds.1 };
}

-- LAYOUT-BYTES: they are bytes
pub layout_bytes : (lim : Limits) (t : Tables) → Roomy lim → Allowed lim t → Bytes (layout lim t)
layout_bytes lim t r ok = go lim.texts r.area
  where
    go : (x : Texts) → AreaFits x lim → Bytes (laid x lim t)
    go Placed f = placed_bytes lim t r (allowed_placed lim t ok)
    go (Shared a) f = shared_bytes lim a t (area_roomy lim a r f) (allowed_placed lim t ok)

-- LAYOUT-ONE: allowed tables that have the same bytes are the same
pub layout_one : (lim : Limits) (t u : Tables) → Allowed lim t → Allowed lim u → layout lim t ≡ layout lim u → t ≡ u
layout_one lim t u p q = go lim.texts p.texts q.texts
  where
    go : (x : Texts) → TextRoom x (text_sum t) → TextRoom x (text_sum u) → laid x lim t ≡ laid x lim u → t ≡ u
    go Placed i j e = placed_one lim t u (allowed_placed lim t p) (allowed_placed lim u q) e
    go (Shared a) i j e = shared_one lim a t u (texts_ok lim a t p i) (texts_ok lim a u q j) e
