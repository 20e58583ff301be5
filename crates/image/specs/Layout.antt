-- "The image": where its tables start, from its four counts.
use Rattle.std.specs.Prelude.{ℕ, ◌+◌, ◌*◌}
use Rattle.spec.specs.Image.{HEADER, OPERATION-BYTES, CLASS-BYTES, MEMBER-BYTES}
use Rattle.image.specs.declared.Image.{Image}

abbrev pub layout_of : ℕ → ℕ → ℕ → ℕ → Image
layout_of operations classes members children = record {
  operations = operations;
  classes = classes;
  members = members;
  children = children;
  class0 = HEADER + operations * OPERATION-BYTES;
  member0 = HEADER + operations * OPERATION-BYTES + classes * CLASS-BYTES;
  child0 = HEADER + operations * OPERATION-BYTES + classes * CLASS-BYTES + members * MEMBER-BYTES;
}
