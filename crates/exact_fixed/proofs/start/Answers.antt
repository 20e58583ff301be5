use Rattle.exact_fixed.specs.FinishLaws.{finish-stopped, finish-cut, all-holds, all-within, all-graphs, all-full, all-cut, all-rounds}
use Rattle.laws.specs.BestMembers.{IsPair}
use Rattle.image.specs.Loaded.{classes-many}
use Rattle.query.specs.Settings.{limits_of, asked_of}
use Rattle.spec.specs.Image.{tables_of}
use native.Mathlib.Omega.{arith}
use Rattle.std.specs.Prelude.{Some}
use Rattle.exact_fixed.specs.declared.Started.{Started}
use mathlib.Core.Path.{ap, ◌∙◌}
use Rattle.exact_fixed.proofs.start.Goals as goal

pub returns-in-Stopped : goal.returns-in-Stopped
returns-in-Stopped c =
    let a = c.args in
    finish-stopped (limits_of a.lim) (tables_of a.s.now) (asked_of a.q) a.q.budget a.im.classes a.graph.now a.terms.now a.runs.now _ a.b c.in-Stopped.is c.requires.9

pub returns-in-Cut : goal.returns-in-Cut
returns-in-Cut c =
    let a = c.args in
    finish-cut (limits_of a.lim) (tables_of a.s.now) (asked_of a.q) a.q.budget a.im.classes a.graph.now a.terms.now a.runs.now c.requires.1 ((let it : IsPair (tables_of c.args.s.now) (asked_of c.args.q) = let n = classes-many c.args.s.now c.args.im c.requires.0 in (omega (arith, c.requires.2, n), omega (arith, c.requires.3, n)) in it)) c.requires.5 _ _ a.b c.in-Cut.is c.requires.9 c.report_started-o.result c.report_started-o.ensures

pub start_all-requires : goal.start_all-requires
start_all-requires c =
    let a = c.args in
    let e = c.in-All.is in
    let G = all-graphs (limits_of a.lim) (tables_of a.s.now) (asked_of a.q) a.q.budget a.im.classes a.graph.now a.terms.now a.runs.now c.requires.1 ((let it : IsPair (tables_of c.args.s.now) (asked_of c.args.q) = let n = classes-many c.args.s.now c.args.im c.requires.0 in (omega (arith, c.requires.2, n), omega (arith, c.requires.3, n)) in it)) _ _ _ _ a.b e c.requires.9 (classes-many a.s.now a.im c.requires.0) c.requires.4 in
    (c.requires.0, c.requires.1, omega (arith, G.few, c.requires.6), omega (arith, G.few, c.requires.4), G.pairs, omega (arith, G.few, c.requires.7), all-holds (limits_of a.lim) (tables_of a.s.now) (asked_of a.q) a.q.budget a.im.classes a.graph.now a.terms.now a.runs.now c.requires.1 ((let it : IsPair (tables_of c.args.s.now) (asked_of c.args.q) = let n = classes-many c.args.s.now c.args.im c.requires.0 in (omega (arith, c.requires.2, n), omega (arith, c.requires.3, n)) in it)) _ _ _ _ a.b e c.requires.9, c.requires.8, all-within (limits_of a.lim) (tables_of a.s.now) (asked_of a.q) a.q.budget a.im.classes a.graph.now a.terms.now a.runs.now c.requires.1 ((let it : IsPair (tables_of c.args.s.now) (asked_of c.args.q) = let n = classes-many c.args.s.now c.args.im c.requires.0 in (omega (arith, c.requires.2, n), omega (arith, c.requires.3, n)) in it)) _ _ _ _ a.b e c.requires.9)

pub returns-in-None : goal.returns-in-None
returns-in-None c =
    let a = c.args in
    let e = c.in-All.is in
    let s = c.start_all in
    let z = s.new.pairs in
    all-full (limits_of a.lim) (tables_of a.s.now) (asked_of a.q) a.q.budget a.im.classes a.graph.now a.terms.now a.runs.now c.requires.1 ((let it : IsPair (tables_of c.args.s.now) (asked_of c.args.q) = let n = classes-many c.args.s.now c.args.im c.requires.0 in (omega (arith, c.requires.2, n), omega (arith, c.requires.3, n)) in it)) _ _ _ _ a.b e c.requires.9 (classes-many a.s.now a.im c.requires.0) c.requires.4 z c.start_all.new.terms c.start_all.new.runs s.result s.ensures c.in-None.is

pub returns-in-Some-Cut : goal.returns-in-Some-Cut
returns-in-Some-Cut c =
    let a = c.args in
    let e = c.in-All.is in
    let s = c.start_all in
    let z = s.new.pairs in
    all-cut (limits_of a.lim) (tables_of a.s.now) (asked_of a.q) a.q.budget a.im.classes a.graph.now a.terms.now a.runs.now c.requires.1 ((let it : IsPair (tables_of c.args.s.now) (asked_of c.args.q) = let n = classes-many c.args.s.now c.args.im c.requires.0 in (omega (arith, c.requires.2, n), omega (arith, c.requires.3, n)) in it)) _ _ _ _ a.b e c.requires.9 (classes-many a.s.now a.im c.requires.0) c.requires.4 z c.start_all.new.terms c.start_all.new.runs s.result s.ensures c.requires.5 (c.in-Some-Cut.is ∙ ap (λ (z : Started). Some z) c.in-Some-Cut.field-0-is) c.report_started-o-in-Some-Cut.result c.report_started-o-in-Some-Cut.ensures

pub returns-in-Some-All : goal.returns-in-Some-All
returns-in-Some-All c =
    let a = c.args in
    let e = c.in-All.is in
    let s = c.start_all in
    let z = s.new.pairs in
    all-rounds (limits_of a.lim) (tables_of a.s.now) (asked_of a.q) a.q.budget a.im.classes a.graph.now a.terms.now a.runs.now c.requires.1 ((let it : IsPair (tables_of c.args.s.now) (asked_of c.args.q) = let n = classes-many c.args.s.now c.args.im c.requires.0 in (omega (arith, c.requires.2, n), omega (arith, c.requires.3, n)) in it)) _ _ _ _ a.b e c.requires.9 (classes-many a.s.now a.im c.requires.0) c.requires.4 z c.start_all.new.terms c.start_all.new.runs s.result s.ensures _ (c.in-Some-All.is ∙ ap (λ (z : Started). Some z) c.in-Some-All.field-0-is)
