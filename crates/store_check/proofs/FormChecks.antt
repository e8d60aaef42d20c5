-- The store's form decides which bytes are one. Assumes nothing.
use Rattle.lists.proofs.Kit.{ℕ, ◌≡◌, sym, ap, ◌∙◌, subst, subst⁻¹, ◌↔◌, List}
use Rattle.tables.specs.declared.limits.Limits.{Limits}
use Rattle.tables.specs.declared.limits.Texts.{Texts}
use Rattle.tables.specs.declared.limits.Texts.TheVariants.{Placed, Shared}
use Rattle.tables.specs.Allowed.{Allowed}
use Rattle.tables.specs.Forms.{laid, AreaFits, Roomy, IsStore}
use Rattle.tables.specs.Tables.{Tables}
use Rattle.tables.specs.Texts.{text_sum, TextRoom}
use Rattle.tables.proofs.AllowedLaws.{allowed_placed, allowed_within}
use Rattle.shared_texts.specs.Shared.{SharedRoomy, IsShared}
use Rattle.shared_texts.proofs.Forms.{area_roomy, texts_ok}
use Rattle.store_check.specs.Checks.{IsPlaced}

-- texts in places of their own
pub placed_store : (lim : Limits) (s : List ℕ) → lim.texts ≡ Placed → IsPlaced lim s ↔ IsStore lim s
placed_store lim s e = (
  λ p. record {
    tables = p.tables;
    allowed = allowed_within lim p.tables p.allowed (subst⁻¹ (λ (x : Texts). TextRoom x (text_sum p.tables)) e tt);
    bytes_are = p.bytes_are ∙ sym (ap (λ (x : Texts). laid x lim p.tables) e);
  },
  λ q. record { tables = q.tables; allowed = allowed_placed lim q.tables q.allowed; bytes_are = q.bytes_are ∙ ap (λ (x : Texts). laid x lim q.tables) e },
)

-- texts in one area, which has room
pub shared_store : (lim : Limits) (a : ℕ) (s : List ℕ) → lim.texts ≡ Shared a → IsShared lim a s ↔ IsStore lim s
shared_store lim a s e = (
  λ p. record {
    tables = p.tables;
    allowed = allowed_within lim p.tables p.ok.allowed (subst⁻¹ (λ (x : Texts). TextRoom x (text_sum p.tables)) e p.ok.room);
    bytes_are = p.bytes_are ∙ sym (ap (λ (x : Texts). laid x lim p.tables) e);
  },
  λ q. record {
    tables = q.tables;
    ok = texts_ok lim a q.tables q.allowed (subst (λ (x : Texts). TextRoom x (text_sum q.tables)) e q.allowed.texts);
    bytes_are = q.bytes_are ∙ ap (λ (x : Texts). laid x lim q.tables) e;
  },
)

pub shared_room : (lim : Limits) (a : ℕ) → lim.texts ≡ Shared a → Roomy lim → SharedRoomy lim a
shared_room lim a e room = area_roomy lim a room (subst (λ (x : Texts). AreaFits x lim) e room.area)
