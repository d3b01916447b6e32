use Rattle.std.proofs.Common.{◌≡◌, ◌+◌, ◌-◌, Some, length, reverse, slice_get, ap, sym, subst, ◌∙◌, arith, rules}
use Rattle.std.specs.Vec.{vec_len}
use Rattle.std.proofs.lemmas.List.{length-map, length-reverse}
use Rattle.frames.specs.Chains.{StoredChain, frames_in}
use Rattle.frames.specs.FrameOf.{frame_of}
use Rattle.frames.proofs.Places.{below_at}
use Rattle.frames.proofs.frames.Frames.frame.Goals as goal

pub returns-else-n-eq0 : goal.returns-else-n-eq0
returns-else-n-eq0 c =
    let fs = c.self.inside.below.items in
    let many : vec_len c.self.inside.below ≡ length fs = search rules in
    let seen : length (frames_in c.args.self.now) ≡ length fs + 1 =
    ap (λ (s : StoredChain). length (frames_in s)) (sym c.self.view_is) ∙ omega (arith, length-map (reverse fs) frame_of, length-reverse fs) in
    let back : c.len.result - c.args.n ≡ length fs - c.args.n = omega arith in
    let P : StoredChain → Type 0 = λ s. slice_get (frames_in s) c.args.n ≡ Some (frame_of c.index.result.now) in
    subst P c.self.view_is
    (below_at (frame_of c.self.inside.top) fs c.args.n c.index.result.now (omega arith) (omega arith) (rw (← back) c.index.ensures))
