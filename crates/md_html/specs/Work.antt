-- The work of a list of events: what is read and printed.
pub use Rattle.md_length.specs.Work.{is_read, enters, exits, depth_after, covered_from, covered}
pub use Rattle.md_length.specs.Work.{read_length, is_definition, before_definition, is_table}
pub use Rattle.md_length.specs.Work.{is_column, is_row, columns_after, cells, work}
