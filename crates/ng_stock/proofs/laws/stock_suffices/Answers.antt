-- The lemmas say it.
use Rattle.ng_stock.proofs.Suffices.{has_socket, has_ethers, are_few}
use Rattle.ng_stock.proofs.laws.stock_suffices.Goals as goal

pub returns-clause-socket : goal.returns-clause-socket
returns-clause-socket c = has_socket

pub returns-clause-ethers : goal.returns-clause-ethers
returns-clause-ethers c = has_ethers

pub returns-clause-few : goal.returns-clause-few
returns-clause-few c = are_few
