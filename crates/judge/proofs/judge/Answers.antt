use mathlib.Core.Bool.{not}
use Rattle.judge.proofs.VerdictLaws.{short-refused, length-refused, version-refused, counts-refused, counts-are, end_refused, end_is, end-small, header-loaded, members-few, tables-left}
use Rattle.judge.specs.Verdict.{header_of, verdict_as}
use Rattle.image.specs.declared.Image.{Image}
use Rattle.spec.specs.Image.{image_of, tables_of, tables_rules}
use Rattle.laws.specs.AcceptedTurns.{failed, passed}
use native.Mathlib.Omega.{arith}
use mathlib.Core.Path.{◌≡◌, refl, sym, ap, ◌∙◌}
use Rattle.judge.proofs.judge.Goals as goal

pub returns-then-s-lt-HEADER : goal.returns-then-s-lt-HEADER
returns-then-s-lt-HEADER c =
    let s = c.args.s.now in
    let z = short-refused s c.if-s-lt-HEADER.true in
    ap (verdict_as (header_of s) s) z

pub returns-then-be4-long_size : goal.returns-then-be4-long_size
returns-then-be4-long_size c =
    let s = c.args.s.now in
    let z = length-refused s c.if-s-lt-HEADER.false (λ e. c.if-be4-long_size.true (omega (arith, e, c.be4.ensures.0, c.long_size.ensures))) in
    ap (verdict_as (header_of s) s) z

pub returns-then-s-ne-VERSION : goal.returns-then-s-ne-VERSION
returns-then-s-ne-VERSION c =
    let s = c.args.s.now in
    let z = version-refused s c.if-s-lt-HEADER.false (omega (arith, c.if-be4-long_size.false, c.be4.ensures.0, c.long_size.ensures)) c.if-s-ne-VERSION.true in
    ap (verdict_as (header_of s) s) z

pub returns-then-not-counts_within : goal.returns-then-not-counts_within
returns-then-not-counts_within c =
    let s = c.args.s.now in
    let z = counts-refused s c.if-s-lt-HEADER.false (omega (arith, c.if-be4-long_size.false, c.be4.ensures.0, c.long_size.ensures)) c.if-s-ne-VERSION.false (failed (counts-are s c.header-im.ensures c.counts_within.ensures) (ap not c.if-not-counts_within.true)) in
    ap (verdict_as (header_of s) s) z

pub end-requires : goal.end-requires
end-requires c =
    let s = c.args.s.now in
    omega (arith, end_is s c.header-im.ensures, end-small s (passed (counts-are s c.header-im.ensures c.counts_within.ensures) (ap not c.if-not-counts_within.false)))

pub returns-then-end-s : goal.returns-then-end-s
returns-then-end-s c =
    let s = c.args.s.now in
    let z = end_refused s c.if-s-lt-HEADER.false (omega (arith, c.if-be4-long_size.false, c.be4.ensures.0, c.long_size.ensures)) c.if-s-ne-VERSION.false (passed (counts-are s c.header-im.ensures c.counts_within.ensures) (ap not c.if-not-counts_within.false)) (λ q. c.if-end-s.true (c.end.ensures ∙ end_is s c.header-im.ensures ∙ q)) in
    ap (verdict_as (header_of s) s) z

pub tables-requires : goal.tables-requires
tables-requires c =
    let s = c.args.s.now in (
      header-loaded s c.header-im.ensures
          (sym (end_is s c.header-im.ensures) ∙ sym c.end.ensures ∙ c.if-end-s.false),
      members-few s c.header-im.ensures (passed (counts-are s c.header-im.ensures c.counts_within.ensures) (ap not c.if-not-counts_within.false)),
    )

pub returns : goal.returns
returns c =
    let s = c.args.s.now in
    let z : tables_rules (tables_of s) ≡ image_of s =
    tables-left s c.if-s-lt-HEADER.false (omega (arith, c.if-be4-long_size.false, c.be4.ensures.0, c.long_size.ensures)) c.if-s-ne-VERSION.false (passed (counts-are s c.header-im.ensures c.counts_within.ensures) (ap not c.if-not-counts_within.false))
    (sym (end_is s c.header-im.ensures) ∙ sym c.end.ensures ∙ c.if-end-s.false) refl in
    c.tables.ensures ∙ ap (λ (x : Image). verdict_as x s (tables_rules (tables_of s))) c.header-im.ensures ∙ ap (verdict_as (header_of s) s) z
