use Rattle.std.proofs.Common.{map}
use Rattle.slot_store.specs.Means.{pass_of}
use Rattle.version_store.specs.Means.{bench_of, editor_of}
use Rattle.version_store_soak.proofs.ComingBack.{all_back, gathered_pins}
use Rattle.version_store_soak.proofs.together.work_and_gather.Goals as goal

pub gather-bench-requires : goal.gather-bench-requires
gather-bench-requires g c = let w = c.work_together-editor in
    all_back (bench_of c.args.bench) c.args.count (editor_of c.in-Ok.parts.0) (editor_of w.result.0) c.in-Ok.parts.1.items w.result.1.items c.requires.pins
    c.in-Ok.ensures w.ensures.editor w.ensures.passes

pub returns : goal.returns
returns g c = let w = c.work_together-editor in
    gathered_pins (editor_of w.result.0) (map pass_of w.result.1.items) (bench_of c.gather-bench.result)
    (all_back (bench_of c.args.bench) c.args.count (editor_of c.in-Ok.parts.0) (editor_of w.result.0) c.in-Ok.parts.1.items w.result.1.items c.requires.pins
    c.in-Ok.ensures w.ensures.editor w.ensures.passes) c.gather-bench.ensures
