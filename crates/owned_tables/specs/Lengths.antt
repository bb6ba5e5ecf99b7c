-- How long the tables of a builder are where they are as long as its limits.
use Rattle.owned_tables.specs.declared.lengths.TableLengths.{TableLengths}

abbrev pub full_lengths : TableLengths
full_lengths =
    record {
      operations = 256;
      operation_slots = 512;
      fragments = 256;
      fragment_slots = 512;
      rows = 16384;
      errors = 16384;
      path_keys = 131072;
    }
