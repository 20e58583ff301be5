-- The children of a member, by their numbers in the table of children.
use Rattle.std.specs.Prelude.{◌+◌}
use Rattle.spec.specs.Image.{Member}
use Rattle.image.specs.declared.Span.{Span}

abbrev pub child_span : Member → Span
child_span m = record { from = m.first; to = m.first + m.count }
