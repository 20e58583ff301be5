use borrow.Author.Tests.{lt-ltb, le-ltb, le-leb, lt-leb, eq-eqb, ne_eqb}
use Prim.Native.Nat.{ℕ, zero, suc, ◌≤◌, ◌<◌, ◌-◌, ◌+◌, ◌*◌, ◌^◌}
use native.Mathlib.Omega.{arith}
use native.Mathlib.Numerals.{add-one}
use mathlib.Core.Path.{◌≡◌, refl, ap, sym, ◌∙◌}
use mathlib.Core.Logic.{⊎_elim}
use mathlib.Core.List.{List, [], ◌∷◌, ◌++◌, append-nil}
use lib.ListN.{length, take, drop, get_or, set, length-set, length-take, length-drop, length-append, drop_of_length-le}
use Rattle.std.proofs.lemmas.List.{length-replicate}
use borrow.Author.Rules.{rules}
use Rattle.answer.specs.RespondingLaws.{asks-from}
use Rattle.card_answer.specs.CardingLaws.{none-off, image-inside, staged-kept, loads-listing, loads-refused, loads-doubled, listing-inside}
use Rattle.card_answer.proofs.load.Goals as goal

-- src/lib.rt:89:9
pub slice_bounds-merge_plain-end : goal.slice_bounds-merge_plain-end
slice_bounds-merge_plain-end c =
    image-inside c.args.input.now c.image_length-n.result c.requires.0 c.image_length-n.ensures

-- src/lib.rt:100:53
pub slice_bounds-read_behind-end : goal.slice_bounds-read_behind-end
slice_bounds-read_behind-end c =
    let s = c.args.input.now in
    let i = c.image_length-n in
    let q = c.query_of-q in
    let m = asks-from s _ i.result q.result _ _ _ _ (ap (λ (k : ℕ). take k s) (none-off i.result)) i.ensures q.ensures c.merge_plain-a.ensures.0 in
    let w = length-replicate {A = ℕ} 400000 0 in
    listing-inside s _ _ [] [] _ _ c.requires.1.fit w m c.in-Listing.m c.in-Listing.is

-- src/lib.rt:100:41
pub read_behind-requires : goal.read_behind-requires
read_behind-requires c =
    staged-kept c.requires.1.staged c.merge_plain-a.auto.work c.merge_plain-a.auto.terms c.merge_plain-a.auto.runs

-- src/lib.rt:73:1
pub returns-in-Listing : goal.returns-in-Listing
returns-in-Listing c =
    let s = c.args.input.now in
    let i = c.image_length-n in
    let q = c.query_of-q in
    let m = asks-from s _ i.result q.result _ _ _ _ (ap (λ (k : ℕ). take k s) (none-off i.result)) i.ensures q.ensures c.merge_plain-a.ensures.0 in
    let w = length-replicate {A = ℕ} 400000 0 in
    loads-listing s _ _ _ _ _ _ c.requires.1.fit w m c.in-Listing.m c.in-Listing.is _ c.read_behind.ensures

-- src/lib.rt:73:1
pub returns-in-Refused : goal.returns-in-Refused
returns-in-Refused c =
    let s = c.args.input.now in
    let i = c.image_length-n in
    let q = c.query_of-q in
    let m = asks-from s _ i.result q.result _ _ _ _ (ap (λ (k : ℕ). take k s) (none-off i.result)) i.ensures q.ensures c.merge_plain-a.ensures.0 in
    let w = length-replicate {A = ℕ} 400000 0 in
    loads-refused s _ _ _ _ _ _ c.requires.1.fit w m c.in-Refused.k c.in-Refused.is

-- src/lib.rt:73:1
pub returns-in-Doubled : goal.returns-in-Doubled
returns-in-Doubled c =
    let s = c.args.input.now in
    let i = c.image_length-n in
    let q = c.query_of-q in
    let m = asks-from s _ i.result q.result _ _ _ _ (ap (λ (k : ℕ). take k s) (none-off i.result)) i.ensures q.ensures c.merge_plain-a.ensures.0 in
    let w = length-replicate {A = ℕ} 400000 0 in
    loads-doubled s _ _ _ _ _ _ c.requires.1.fit w m c.in-Doubled.c c.in-Doubled.is
