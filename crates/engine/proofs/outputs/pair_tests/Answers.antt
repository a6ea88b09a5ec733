-- `engine::outputs::pair_tests` meets its contract: a module has all or none of each eight outputs. Assumes nothing.
use lib.Count.{ones}
use lib.ListN.{get_or}
use Rattle.rules.specs.Words.{table}
use Rattle.word.proofs.Tables.{as_table}
use Rattle.engine.proofs.Ones.{by_eights}
use Rattle.engine.proofs.outputs.pair_tests.Goals as goal

pub returns : goal.returns
unfolding table
returns c =
    let xs = c.args.tested.now in
    rw (c.eight_tests.ensures.tests, c.eight_tests-2.ensures.tests, c.eight_tests-3.ensures.tests, c.eight_tests-4.ensures.tests, c.as_chunks.ensures.front, as_table 32 xs c.told-tested)
    (by_eights c.args.m (λ k. ones (get_or xs k 0)))
