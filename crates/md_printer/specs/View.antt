-- How the code's surroundings encode those of the steps.
use Rattle.md_printer.specs.declared.scope.Scope.{Scope as Kept}
use Rattle.md_steps.specs.State.{Scope}

abbrev pub scope_of : Kept → Scope
scope_of scope = record {
  is_contained = scope.is_contained;
  is_tight = scope.is_tight;
  in_image = scope.in_image;
  in_link = scope.in_link;
  in_table = scope.in_table;
  in_head = scope.in_head;
  in_code = scope.in_code;
  in_definition = scope.in_definition;
  is_escaping = scope.is_escaping;
  columns = scope.columns.now;
}
