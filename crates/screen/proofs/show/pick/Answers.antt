use Rattle.lists.proofs.Kit.{◌+◌, ◌-◌, ◌≡◌, ap, ◌∙◌, add_comm, zero-add, arith, take, drop}
use Rattle.screen.proofs.ShowLaws.{fits_as, block_as, offset_as, bytes_as}
use Rattle.screen.proofs.show.pick.Goals as goal

pub overflow_add-end : goal.overflow_add-end
overflow_add-end c =
    let f = fits_as c.args.store.now c.args.scratch.now c.in-Store.is c.requires in
    omega arith

pub slice_bounds-result-end : goal.slice_bounds-result-end
slice_bounds-result-end c =
    let f = fits_as c.args.store.now c.args.scratch.now c.in-Store.is c.requires in
    omega arith

pub slice_bounds-result-end-in-Scratch : goal.slice_bounds-result-end-in-Scratch
slice_bounds-result-end-in-Scratch c = fits_as c.args.store.now c.args.scratch.now c.in-Scratch.is c.requires

pub returns-in-Store : goal.returns-in-Store
returns-in-Store c =
    let a = c.args in
    let e : c.in-Store.at + c.in-Store.bytes - c.in-Store.at ≡ c.in-Store.bytes = omega arith in
    record {
      block = block_as a.store a.scratch c.in-Store.is;
      offset = add_comm c.in-Store.at a.store.ref_ptr.1 ∙ offset_as a.store a.scratch c.in-Store.is;
      bytes = ap (λ n. take n (drop c.in-Store.at a.store.now)) e ∙ bytes_as a.store a.scratch c.in-Store.is;
    }

pub returns-in-Scratch : goal.returns-in-Scratch
returns-in-Scratch c =
    let a = c.args in
    let e : c.in-Scratch.bytes - 0 ≡ c.in-Scratch.bytes = omega arith in
    record {
      block = block_as a.store a.scratch c.in-Scratch.is;
      offset = zero-add a.scratch.ref_ptr.1 ∙ offset_as a.store a.scratch c.in-Scratch.is;
      bytes = ap (λ n. take n a.scratch.now) e ∙ bytes_as a.store a.scratch c.in-Scratch.is;
    }

pub returns-in-Refused : goal.returns-in-Refused
returns-in-Refused c =
    let a = c.args in
    let g = c.in-Refused.is in
    record {
      block = block_as a.store a.scratch g;
      offset = add_comm 0 a.store.ref_ptr.1 ∙ offset_as a.store a.scratch g;
      bytes = bytes_as a.store a.scratch g;
    }
