-- What stands in a place that no packet takes.
use Rattle.rules.specs.declared.Received.{Received}
use Rattle.rules.specs.Calls.{no_route, received_as}

abbrev pub no_answer : Received
no_answer = received_as 0 0 0 no_route
