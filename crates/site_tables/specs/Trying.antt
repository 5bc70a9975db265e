-- What a step that failed leaves of the connection.
use Rattle.sqlite.specs.declared.error.Error.{Error}
use Rattle.site_tables.specs.declared.trying.Left.{Left}
use Rattle.site_tables.specs.declared.trying.Left.TheVariants.{Kept, Shut}

abbrev pub error_in : Left → Error
error_in (Kept e) = e
error_in (Shut e) = e
