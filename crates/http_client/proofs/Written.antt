-- a request is its pieces
use Rattle.std.proofs.Common.{◌≡◌, List, ℕ, [], ◌++◌, codes, append_assoc, append-nil}
use Rattle.http_client.specs.Requests.{opening, length_field, closing}

get_parts : (method path version name host end close : List ℕ)
    → method ++ (path ++ (version ++ (name ++ (host ++ (end ++ close))))) ≡ method ++ path ++ version ++ (name ++ host ++ end) ++ close
get_parts method path version name host end close = simp append_assoc

post_parts : (method path version name host end length digits close body : List ℕ)
    → method ++ (path ++ (version ++ (name ++ (host ++ (end ++ (length ++ (digits ++ (end ++ (close ++ (body ++ []))))))))))
    ≡ method ++ path ++ version ++ (name ++ host ++ end) ++ (length ++ digits ++ end) ++ close ++ body
post_parts method path version name host end length digits close body = simp (append_assoc, append-nil)

pub get_is : (path host : List ℕ)
    → codes "GET " ++ (path ++ (codes " HTTP/1.1\r\nHost: " ++ (host ++ (codes "\r\nConnection: close\r\n\r\n" ++ [])))) ≡ opening (codes "GET") path host ++ closing
get_is path host = get_parts (codes "GET ") path (codes " HTTP/1.1\r\n") (codes "Host: ") host (codes "\r\n") closing

pub post_is : (path host digits body : List ℕ)
    → codes "POST " ++ (path ++ (codes " HTTP/1.1\r\nHost: " ++ (host ++ (codes "\r\nContent-Length: " ++ (digits ++ (codes "\r\nConnection: close\r\n\r\n" ++ (body ++ [])))))))
    ≡ opening (codes "POST") path host ++ length_field digits ++ closing ++ body
post_is path host digits body = post_parts (codes "POST ") path (codes " HTTP/1.1\r\n") (codes "Host: ") host (codes "\r\n") (codes "Content-Length: ") digits closing body
