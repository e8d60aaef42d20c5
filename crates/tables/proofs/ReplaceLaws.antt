-- A table that is emptied where it is to be replaced. Assumes nothing.
use Rattle.lists.proofs.Kit.{◌≡◌, subst⁻¹, List, ℕ, length, replicate}
use Rattle.writing.specs.declared.Operation.{Operation}
use Rattle.writing.specs.declared.Operation.TheVariants.{Add, Delete, Replace}
use Rattle.tables.specs.Apply.{start_from}

-- where as many zeros are the empty table, the bytes afterwards are the table that the entries start from
pub table_started : {T : Type 0} (Is : T → List ℕ → Type 0) (empty was : T) (s t : List ℕ) (o : Operation) → t ≡ start_from o (replicate (length s) 0) s
    → Is empty (replicate (length s) 0) → Is was s → Is (start_from o empty was) t
table_started Is empty was s t Add e z is = subst⁻¹ (Is was) e is
table_started Is empty was s t Delete e z is = subst⁻¹ (Is was) e is
table_started Is empty was s t Replace e z is = subst⁻¹ (Is empty) e z
